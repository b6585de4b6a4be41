use Rattle.std.proofs.Common.{◌≡◌, length}
use Rattle.build_base.specs.First.{with_front}
use Rattle.output_steps.specs.Outputs.{modules_outputs}
use Rattle.output_steps.proofs.outputs.modules_outputs.Given as goal

abbrev pub invariant-loop-left : goal.invariant-loop-left
invariant-loop-left l = with_front l.outputs (modules_outputs l.folder l.given l.left) ≡ modules_outputs l.folder l.given l.modules

abbrev pub decreases-loop-left : goal.decreases-loop-left
decreases-loop-left l = length l.left
