use Rattle.std.proofs.Common.{◌≡◌, ◌∙◌, [], nat_eq, ap, arith}
use Rattle.library_choice.specs.Found.{add}
use Rattle.library_choice.specs.Reaching.{next_at}
use Rattle.library_choice.proofs.InsideLemmas.{led-few}
use Rattle.library_choice.proofs.PathLemmas.{number_same}
use Rattle.library_choice.proofs.SearchLemmas.{led-whole, led-many}
use Rattle.library_choice.proofs.reach.led_to.Goals as goal

pub unreachable-requires : goal.unreachable-requires
unreachable-requires c =
    let next = next_at c.args.nexts.now in
    let starts = next_at c.args.nexts.now c.args.from in
    let begun : c.put_all.new.self ≡ add nat_eq [] starts = c.in_ok-put_all.ensures ∙ ap (add nat_eq c.new-passed.result) c.next_at.ensures ∙ ap (λ f. add nat_eq f (next_at c.args.nexts.now c.args.from)) c.new-passed.ensures in
    let many = led-many nat_eq number_same next starts _ _ _ begun c.in_ok-few.ensures c.if-not-few.true in
    let few = led-few nat_eq number_same next c.requires.found c.args.from c.requires.closed c.requires.there 1025 in
    omega (arith, many, few, c.requires.few)

pub returns : goal.returns
returns c = λ n h.
    let starts = next_at c.args.nexts.now c.args.from in
    let begun : c.put_all.new.self ≡ add nat_eq [] starts = c.in_ok-put_all.ensures ∙ ap (add nat_eq c.new-passed.result) c.next_at.ensures ∙ ap (λ f. add nat_eq f (next_at c.args.nexts.now c.args.from)) c.new-passed.ensures in
    led-whole nat_eq number_same (next_at c.args.nexts.now) starts _ _ _ begun c.in_ok-few.ensures c.if-not-few.false n h
