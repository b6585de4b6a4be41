use Rattle.std.proofs.Common.{◌≡◌, ◌++◌, length}
use Rattle.output_steps.specs.Wanted.{device_marks}
use Rattle.output_steps.proofs.wanted.device_marks.Given as goal

abbrev pub invariant-loop-left : goal.invariant-loop-left
invariant-loop-left l = l.marks ++ device_marks l.names l.left ≡ device_marks l.names l.devices

abbrev pub decreases-loop-left : goal.decreases-loop-left
decreases-loop-left l = length l.left
