use Rattle.std.proofs.Common.{◌≡◌, ◌++◌, ◌+◌, ◌≤◌, length}
use Rattle.output_steps.specs.AllTree.{steps_from, device_step}
use Rattle.output_steps.proofs.all.push_devices.Given as goal

abbrev pub invariant-loop-left : goal.invariant-loop-left
invariant-loop-left l = (l.asks ++ steps_from device_step l.marks l.number l.left ≡ l.fn.asks ++ steps_from device_step l.marks 0 l.plans) × (l.number + length l.left ≤ length l.plans)

abbrev pub decreases-loop-left : goal.decreases-loop-left
decreases-loop-left l = length l.left
