use Rattle.std.proofs.Common.{◌≡◌, ◌++◌, [], length}
use Rattle.flash_document.specs.Names.{Places}
use Rattle.flash_document.specs.Whole.{twin_marks}
use Rattle.flash_document.proofs.check.twin_marks.Given as goal

abbrev pub invariant-loop-left : goal.invariant-loop-left
invariant-loop-left l = Places l.above l.table × (l.marks ++ twin_marks l.left l.above ≡ twin_marks l.parts [])

abbrev pub decreases-loop-left : goal.decreases-loop-left
decreases-loop-left l = length l.left
