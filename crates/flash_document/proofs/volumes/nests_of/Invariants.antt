use Rattle.std.proofs.Common.{◌≡◌, ◌++◌, ℕ, List, map, length}
use Rattle.flash_document.specs.Names.{Places}
use Rattle.flash_document.specs.Whole.{nest_in}
use Rattle.flash_document.proofs.volumes.nests_of.Given as goal

abbrev pub invariant-loop-left : goal.invariant-loop-left
invariant-loop-left l = (names : List (List ℕ)) → Places names l.table → l.nests ++ map (λ v. nest_in names v.now) l.left ≡ map (λ v. nest_in names v.now) l.volumes

abbrev pub decreases-loop-left : goal.decreases-loop-left
decreases-loop-left l = length l.left
