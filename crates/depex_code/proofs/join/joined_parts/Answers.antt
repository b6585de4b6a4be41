use Rattle.std.proofs.Common.{None, option_map, length, get_or, sym, ap, ◌∙◌, arith}
use Rattle.depex_code.specs.Kept.{piece_size}
use Rattle.depex_code.specs.SizedJoins.{next_size, parts_size}
use Rattle.depex_code.proofs.JoinLoops.{parts-step, parts-stop, parts-end}
use Rattle.build_base.proofs.ResultLemmas.{refused_too}
use Rattle.depex_code.proofs.join.joined_parts.Goals as goal

pub returns-in-Err : goal.returns-in-Err
returns-in-Err c =
    let whole = option_map piece_size c.args.whole.now in
    let own = option_map piece_size c.loop-part.own in
    let there = ap length c.items-part-items.ensures in
    let is = c.part-item.is ∙ ap (λ l. get_or l c.loop-part.part-index c.part-item.result) c.items-part-items.ensures in
    refused_too c.in-Err.e (next_size c.args.front c.items-guids.result.now whole c.loop-part.left own c.part-item.result)
    (parts_size c.args.front c.args.group.now.guids whole c.args.leave None c.args.group.now.parts)
    (λ f x. sym c.loop-part.invariant
    ∙ parts-stop c.args.front c.args.group.now.guids whole c.loop-part.left own c.args.group.now.parts c.loop-part.part-index c.part-item.result f
    (omega (arith, there, c.loop-part-test.true)) is
    (ap (λ g. next_size c.args.front g (option_map piece_size c.args.whole.now) c.loop-part.left (option_map piece_size c.loop-part.own) c.part-item.result) (sym c.items-guids.ensures) ∙ x))
    c.in-Err.ensures

pub loop-part-preserved : goal.loop-part-preserved
loop-part-preserved c =
    let whole = option_map piece_size c.args.whole.now in
    let own = option_map piece_size c.loop-part.own in
    let there = ap length c.items-part-items.ensures in
    let is = c.part-item.is ∙ ap (λ l. get_or l c.loop-part.part-index c.part-item.result) c.items-part-items.ensures in
    sym (parts-step c.args.front c.args.group.now.guids whole c.loop-part.left own c.args.group.now.parts c.loop-part.part-index c.part-item.result (piece_size c.in-Ok.next)
    (omega (arith, there, c.loop-part-test.true)) is
    (ap (λ g. next_size c.args.front g (option_map piece_size c.args.whole.now) c.loop-part.left (option_map piece_size c.loop-part.own) c.part-item.result) (sym c.items-guids.ensures) ∙ c.in-Ok.ensures))
    ∙ c.loop-part.invariant

pub returns : goal.returns
returns c =
    let there = ap length c.items-part-items.ensures in
    sym c.loop-part.invariant
    ∙ parts-end c.args.front c.args.group.now.guids (option_map piece_size c.args.whole.now) c.loop-part.left (option_map piece_size c.loop-part.own) c.args.group.now.parts c.loop-part.part-index
    (omega (arith, there, c.loop-part-test.false))
