use Rattle.std.proofs.Common.{◌≡◌, List, length}
use Rattle.flash_document.specs.declared.held.HeldRegion.{HeldRegion}
use Rattle.flash_document.specs.Held.{Sizes}
use Rattle.flash_document.specs.Whole.{part_fault, first_marked}
use Rattle.flash_document.proofs.check.check_parts.Given as goal

abbrev pub invariant-loop-left : goal.invariant-loop-left
invariant-loop-left l =
    (regions : List HeldRegion) → Sizes regions l.sizes → first_marked (part_fault l.test regions) l.left l.marks ≡ first_marked (part_fault l.test regions) l.parts l.repeats

abbrev pub decreases-loop-left : goal.decreases-loop-left
decreases-loop-left l = length l.left
