use Rattle.std.proofs.Common.{◌≡◌, ◌+◌, ◌≤◌, length}
use Rattle.build_base.specs.First.{with_front}
use Rattle.output_steps.specs.Outputs.{device_outputs}
use Rattle.output_steps.proofs.outputs.push_devices.Given as goal

abbrev pub invariant-loop-left : goal.invariant-loop-left
invariant-loop-left l = (with_front l.outputs (device_outputs l.folder l.marks l.number l.left) ≡ with_front l.fn.volumes (device_outputs l.folder l.marks 0 l.plans)) × (l.number + length l.left ≤ length l.plans)

abbrev pub decreases-loop-left : goal.decreases-loop-left
decreases-loop-left l = length l.left
