use Rattle.std.proofs.Common.{◌≡◌, ◌++◌, length}
use Rattle.library_calls.proofs.calls.push_calls.Given as goal

abbrev pub invariant-loop-left : goal.invariant-loop-left
invariant-loop-left l = l.out.items ++ l.left ≡ l.fn.out.items ++ l.calls

abbrev pub decreases-loop-left : goal.decreases-loop-left
decreases-loop-left l = length l.left
