use Rattle.std.proofs.Common.{◌≡◌, ◌++◌, length}
use Rattle.output_steps.proofs.outputs.append.Given as goal

abbrev pub invariant-loop-left : goal.invariant-loop-left
invariant-loop-left l = l.outputs ++ l.left ≡ l.fn.outputs ++ l.more

abbrev pub decreases-loop-left : goal.decreases-loop-left
decreases-loop-left l = length l.left
