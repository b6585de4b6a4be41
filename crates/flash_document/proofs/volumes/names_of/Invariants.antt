use Rattle.std.proofs.Common.{◌≡◌, ◌++◌, map, length}
use Rattle.flash_document.proofs.volumes.names_of.Given as goal

abbrev pub invariant-loop-left : goal.invariant-loop-left
invariant-loop-left l = l.names ++ map (λ v. v.now.name) l.left ≡ map (λ v. v.now.name) l.volumes

abbrev pub decreases-loop-left : goal.decreases-loop-left
decreases-loop-left l = length l.left
