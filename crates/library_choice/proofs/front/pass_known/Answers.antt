use Rattle.std.proofs.Common.{◌≡◌, ◌+◌, ◌<◌, ◌≤◌, ◌∙◌, ℕ, List, [], length, slice_index_or, sym, ap, subst, arith}
use Rattle.library_choice.specs.Closure.{same_path, is_known, next}
use Rattle.library_choice.specs.Found.{add}
use Rattle.library_choice.specs.Fronts.{PassedKnown}
use Rattle.library_choice.proofs.FrontLemmas.{passed-step}
use Rattle.library_choice.proofs.MoreLemmas.{next-unknown}
use Rattle.library_choice.proofs.PathLemmas.{path_same}
use Rattle.library_choice.proofs.front.pass_known.Goals as goal

pub returns-then-not-branch : goal.returns-then-not-branch
unfolding add
returns-then-not-branch c =
    let none = next-unknown c.args.tables.now (slice_index_or c.loop-at.found c.loop-at.at []) (sym c.in_ok-put_next.ensures.known ∙ c.if-not-branch.true) in
    let same : c.put_next.new.found ≡ c.loop-at.found = c.in_ok-put_next.ensures.found ∙ ap (add same_path c.loop-at.found) none in
    subst (λ (l : List (List ℕ)). PassedKnown same_path (is_known c.args.tables.now.infs) (next c.args.tables.now) c.args.found.now c.args.from l c.loop-at.at) (sym same) c.loop-at.invariant

pub loop-at-preserved : goal.loop-at-preserved
loop-at-preserved c =
    let inside : c.loop-at.at < length c.loop-at.found = omega (arith, c.loop-at-test.true, c.len-in-loop-at.ensures) in
    let few : length c.loop-at.found ≤ 1024 = omega (arith, c.if-len-gt-MOST_INSTANCES.false, c.len.ensures) in
    subst (λ (l : List (List ℕ)). PassedKnown same_path (is_known c.args.tables.now.infs) (next c.args.tables.now) c.args.found.now c.args.from l (c.loop-at.at + 1)) (sym c.in_ok-put_next.ensures.found)
    (passed-step same_path path_same (is_known c.args.tables.now.infs) (next c.args.tables.now) c.args.found.now c.loop-at.found c.args.from c.loop-at.at [] c.loop-at.invariant inside few
    (sym c.in_ok-put_next.ensures.known ∙ c.if-not-branch.false))
