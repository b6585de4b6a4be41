use Rattle.std.proofs.Common.{ℕ, ◌∙◌, ◌+◌, ◌<◌, ◌≤◌, ◌≡◌, List, nat_eq, length, get_or, ap, sym, subst, arith}
use Rattle.library_choice.specs.Found.{add}
use Rattle.library_choice.specs.Reaching.{next_at}
use Rattle.library_choice.specs.Search.{Stands}
use Rattle.library_choice.proofs.SearchLemmas.{Going-step}
use Rattle.library_choice.proofs.PathLemmas.{number_same}
use Rattle.library_choice.proofs.reach.pass.Goals as goal

pub loop-at-preserved : goal.loop-at-preserved
loop-at-preserved c =
    let next = next_at c.args.nexts.now in
    let inside : c.loop-at.at < length c.loop-at.passed = omega (arith, c.loop-at-test.true, c.len-in-loop-at.ensures) in
    let few : c.loop-at.at + 1 ≤ 1024 = omega (arith, inside, c.if-len-gt-MOST_INSTANCES.false, c.len.ensures) in
    let row : c.next_at.result.now ≡ next_at c.args.nexts.now (get_or c.loop-at.passed c.loop-at.at 0) = c.next_at.ensures ∙ ap (next_at c.args.nexts.now) c.get-place.ensures in
    let one : c.put_all.new.self ≡ add nat_eq c.loop-at.passed (next_at c.args.nexts.now (get_or c.loop-at.passed c.loop-at.at 0)) = c.in_ok-put_all.ensures ∙ ap (add nat_eq c.loop-at.passed) row in
    λ b starts closed began.
    subst (λ (l : List ℕ). Stands nat_eq (next_at c.args.nexts.now) b starts l (c.loop-at.at + 1)) (sym one)
    (record { going = Going-step nat_eq number_same next b starts c.loop-at.passed c.loop-at.at 0 closed (c.loop-at.invariant b starts closed began).going inside; early = few })
