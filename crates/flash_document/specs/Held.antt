-- The sizes of regions by the names of their volumes, in a table.
use Rattle.std.specs.Prelude.{◌≡◌, ℕ, ◌==◌, ◌||◌, if◌then◌else◌, List, Option, Some, None, is_some}
use Rattle.std.specs.Global.{Vec}
use Rattle.std.specs.HashMap.{HashMap, get}
use Rattle.flash_document.specs.declared.held.HeldRegion.{HeldRegion}
use Rattle.flash_document.specs.declared.held.HeldSizes.{HeldSizes}
use Rattle.flash_document.specs.Names.{same_key}
use Rattle.flash_document.specs.Whole.{held_by}

-- with one region more
abbrev pub with_region : Option HeldSizes → HeldRegion → HeldSizes
with_region None region = record { first = region.size; block = region.block; other = None }
with_region (Some held) region = if is_some held.other || (region.size == held.first) then held
    else record held { other = Some region.size }

-- a table gives the sizes of the regions of each name
abbrev pub Sizes : {S : Type 0} → List HeldRegion → HashMap (Vec ℕ) HeldSizes S → Type 0
Sizes regions table = (key : Vec ℕ) → get same_key table key ≡ held_by key.items regions
