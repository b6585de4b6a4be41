use Rattle.std.proofs.Common.{◌≡◌, ◌++◌, map, length}
use Rattle.flash_document.specs.Whole.{volumes_of}
use Rattle.flash_document.proofs.volumes.volumes_of.Given as goal

abbrev pub invariant-loop-left : goal.invariant-loop-left
invariant-loop-left l = map (λ v. v.now) l.volumes.items ++ volumes_of l.left ≡ volumes_of l.parts

abbrev pub decreases-loop-left : goal.decreases-loop-left
decreases-loop-left l = length l.left
