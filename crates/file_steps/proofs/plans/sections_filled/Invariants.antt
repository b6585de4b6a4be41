use Rattle.std.proofs.Common.{◌≡◌, length}
use Rattle.build_base.specs.First.{with_front}
use Rattle.file_steps.specs.Plans.{sections_filled}
use Rattle.file_steps.proofs.plans.sections_filled.Given as goal

abbrev pub invariant-loop-left : goal.invariant-loop-left
invariant-loop-left l = with_front l.plans (sections_filled l.line l.names l.left) ≡ sections_filled l.line l.names l.sections

abbrev pub decreases-loop-left : goal.decreases-loop-left
decreases-loop-left l = length l.left
