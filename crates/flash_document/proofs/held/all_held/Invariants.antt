use Rattle.std.proofs.Common.{◌≡◌, ◌++◌, length}
use Rattle.flash_document.specs.Whole.{all_held}
use Rattle.flash_document.proofs.held.all_held.Given as goal

abbrev pub invariant-loop-left : goal.invariant-loop-left
invariant-loop-left l = l.held ++ all_held l.left ≡ all_held l.parts

abbrev pub decreases-loop-left : goal.decreases-loop-left
decreases-loop-left l = length l.left
