use Rattle.std.proofs.Common.{◌≡◌, ◌++◌, length}
use Rattle.output_steps.specs.Wanted.{held_volumes}
use Rattle.output_steps.proofs.wanted.held_volumes.Given as goal

abbrev pub invariant-loop-left : goal.invariant-loop-left
invariant-loop-left l = l.held ++ held_volumes l.names l.left ≡ held_volumes l.names l.devices

abbrev pub decreases-loop-left : goal.decreases-loop-left
decreases-loop-left l = length l.left
