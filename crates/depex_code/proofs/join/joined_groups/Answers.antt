use Rattle.std.proofs.Common.{◌+◌, None, option_map, drop, sym, ap, ◌∙◌, arith}
use Rattle.depex_code.specs.Compiled.{no_leave}
use Rattle.depex_code.specs.Kept.{piece_size}
use Rattle.depex_code.specs.SizedJoins.{parts_size, groups_size}
use Rattle.depex_code.proofs.JoinLoops.{groups-step, groups-stop, groups-end}
use Rattle.build_base.proofs.ResultLemmas.{refused_too}
use Rattle.depex_code.proofs.join.joined_groups.Goals as goal

pub returns-in-Err : goal.returns-in-Err
returns-in-Err c =
    let whole = option_map piece_size c.loop-group.whole in
    refused_too c.in-Err.e (parts_size c.args.front c.group-item.result.guids whole c.loop-group.left None c.group-item.result.parts)
    (groups_size c.args.front c.args.leave None c.args.groups.now)
    (λ f x. sym c.loop-group.invariant
    ∙ groups-stop c.args.front c.loop-group.left whole c.args.groups.now c.loop-group.group-index c.group-item.result f c.loop-group-test.true c.group-item.is x)
    c.in-Err.ensures

pub loop-group-preserved : goal.loop-group-preserved
loop-group-preserved c =
    ap (λ w. groups_size c.args.front no_leave w (drop (c.loop-group.group-index + 1) c.args.groups.now)) c.in-Ok-with_group.ensures
    ∙ sym (groups-step c.args.front c.loop-group.left (option_map piece_size c.loop-group.whole) c.args.groups.now c.loop-group.group-index c.group-item.result (option_map piece_size c.in-Ok.own)
    c.loop-group-test.true c.group-item.is c.in-Ok.ensures)
    ∙ c.loop-group.invariant

pub returns : goal.returns
returns c =
    sym c.loop-group.invariant
    ∙ groups-end c.args.front c.loop-group.left (option_map piece_size c.loop-group.whole) c.args.groups.now c.loop-group.group-index (omega (arith, c.loop-group-test.false))
