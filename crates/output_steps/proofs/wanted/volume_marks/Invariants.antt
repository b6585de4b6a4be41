use Rattle.std.proofs.Common.{◌≡◌, ◌++◌, ◌+◌, ◌≤◌, length}
use Rattle.output_steps.specs.Wanted.{volume_marks}
use Rattle.output_steps.proofs.wanted.volume_marks.Given as goal

abbrev pub invariant-loop-left : goal.invariant-loop-left
invariant-loop-left l =
    (l.marks ++ volume_marks l.names l.fn.held l.number l.left ≡ volume_marks l.names l.fn.held 0 l.volumes) × (l.number + length l.left ≤ length l.volumes)

abbrev pub decreases-loop-left : goal.decreases-loop-left
decreases-loop-left l = length l.left
