use Rattle.std.proofs.Common.{◌≡◌, ◌++◌, length}
use Rattle.flash_document.specs.Parts.{all_stated}
use Rattle.flash_document.proofs.parts.all_stated.Given as goal

abbrev pub invariant-loop-left : goal.invariant-loop-left
invariant-loop-left l = l.parts ++ all_stated l.left ≡ all_stated l.lines

abbrev pub decreases-loop-left : goal.decreases-loop-left
decreases-loop-left l = length l.left
