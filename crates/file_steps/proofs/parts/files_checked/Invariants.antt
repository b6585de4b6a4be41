use Rattle.std.proofs.Common.{◌≡◌, length}
use Rattle.file_steps.specs.Parts.{files_checked}
use Rattle.file_steps.proofs.parts.files_checked.Given as goal

abbrev pub invariant-loop-left : goal.invariant-loop-left
invariant-loop-left l = files_checked l.given l.left ≡ files_checked l.given l.sections

abbrev pub decreases-loop-left : goal.decreases-loop-left
decreases-loop-left l = length l.left
