use Rattle.std.proofs.Common.{◌≡◌, ◌++◌, ℕ, List, length}
use Rattle.std.specs.List.{flat_map}
use Rattle.flash_document.specs.declared.held.HeldRegion.{HeldRegion}
use Rattle.flash_document.specs.Held.{Sizes}
use Rattle.flash_document.specs.Names.{Places}
use Rattle.flash_document.specs.Document.{plan_in}
use Rattle.flash_document.proofs.volumes.volume_plans.Given as goal

abbrev pub invariant-loop-left : goal.invariant-loop-left
invariant-loop-left l =
    (names : List (List ℕ)) (regions : List HeldRegion) → Places names l.table → Sizes regions l.sizes
    → l.plans ++ flat_map (plan_in names regions l.volumes) l.left ≡ flat_map (plan_in names regions l.volumes) l.order

abbrev pub decreases-loop-left : goal.decreases-loop-left
decreases-loop-left l = length l.left
