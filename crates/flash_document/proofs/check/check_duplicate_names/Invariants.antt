use Rattle.std.proofs.Common.{◌≡◌, length}
use Rattle.flash_document.specs.Whole.{twin, first_marked}
use Rattle.flash_document.proofs.check.check_duplicate_names.Given as goal

abbrev pub invariant-loop-left : goal.invariant-loop-left
invariant-loop-left l = first_marked twin l.left l.marks ≡ first_marked twin l.parts l.repeats

abbrev pub decreases-loop-left : goal.decreases-loop-left
decreases-loop-left l = length l.left
