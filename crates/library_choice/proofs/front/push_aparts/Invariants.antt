use Rattle.std.proofs.Common.{◌≡◌, ◌++◌, length}
use Rattle.std.specs.Prelude.{filter}
use Rattle.library_choice.specs.Fronts.{is_apart}
use Rattle.library_choice.proofs.front.push_aparts.Given as goal

abbrev pub invariant-loop-left : goal.invariant-loop-left
invariant-loop-left l = l.paths ++ filter (is_apart l.tables l.first) l.left ≡ l.fn.paths ++ filter (is_apart l.tables l.first) l.found

abbrev pub decreases-loop-left : goal.decreases-loop-left
decreases-loop-left l = length l.left
