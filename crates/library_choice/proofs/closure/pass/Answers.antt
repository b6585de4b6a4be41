use Rattle.std.proofs.Common.{◌+◌, ◌<◌, ◌≤◌, [], length, sym, subst, arith}
use Rattle.library_choice.specs.Closure.{same_path, next}
use Rattle.library_choice.specs.Search.{Prefix, Stands}
use Rattle.library_choice.proofs.FoundLemmas.{Prefix-self, Prefix-trans, add-grows}
use Rattle.library_choice.proofs.SearchLemmas.{Going-step}
use Rattle.library_choice.proofs.PathLemmas.{path_same}
use Rattle.library_choice.proofs.closure.pass.Goals as goal

pub loop-at-init : goal.loop-at-init
loop-at-init c = record { stands = λ b starts closed began. began; grows = Prefix-self c.args.found.now }

pub loop-at-preserved : goal.loop-at-preserved
loop-at-preserved c =
    let nexts = next c.args.tables.now in
    let inside : c.loop-at.at < length c.loop-at.found = omega (arith, c.loop-at-test.true, c.len-in-loop-at.ensures) in
    let few : c.loop-at.at + 1 ≤ 1024 = omega (arith, inside, c.if-len-gt-MOST_INSTANCES.false, c.len.ensures) in
    record {
      stands = λ b starts closed began.
          subst (λ l. Stands same_path nexts b starts l (c.loop-at.at + 1)) (sym c.in_ok-_known.ensures.found)
          (record { going = Going-step same_path path_same nexts b starts c.loop-at.found c.loop-at.at [] closed (c.loop-at.invariant.stands b starts closed began).going inside; early = few });
      grows = Prefix-trans c.args.found.now c.loop-at.found c.put_next.new.found c.loop-at.invariant.grows
          (subst (λ l. Prefix c.loop-at.found l) (sym c.in_ok-_known.ensures.found) (add-grows same_path c.loop-at.found _));
    }
