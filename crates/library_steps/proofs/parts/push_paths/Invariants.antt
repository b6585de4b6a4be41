use Rattle.std.proofs.Common.{◌≡◌, ◌++◌, length}
use Rattle.library_steps.proofs.parts.push_paths.Given as goal

abbrev pub invariant-loop-left : goal.invariant-loop-left
invariant-loop-left l = l.out ++ l.left ≡ l.fn.out ++ l.paths

abbrev pub decreases-loop-left : goal.decreases-loop-left
decreases-loop-left l = length l.left
