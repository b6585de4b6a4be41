-- What one pass over SKUs finds of the walks by their parents. How it is kept is this project's own.
use Rattle.std.specs.Prelude.{◌≡◌, ℕ, ◌||◌, Bool, true, false, List, slice_get, Option, Some, None}
use Rattle.doc_types.specs.declared.platform.Sku.{Sku}
use Rattle.pcd_resolve.specs.SkuTables.{name_at, at_place}
use Rattle.library_steps.specs.Skus.{or_not, is_default, reaches}

-- whether a place is marked
abbrev pub mark_at : List Bool → ℕ → Bool
mark_at marks place = or_not (slice_get marks place)

abbrev pub mark_above : List Bool → Option ℕ → Bool
mark_above marks None = false
mark_above marks (Some up) = mark_at marks up

-- DEFAULT, or a SKU whose parent is marked
abbrev pub is_near : List Sku → List (Option ℕ) → List Bool → ℕ → Bool
is_near skus ups marks place =
    is_default (name_at skus place) || mark_above marks (at_place ups place)

-- from each place that is marked DEFAULT is so many steps away at most
abbrev pub AreNear : List Sku → ℕ → List Bool → Type 0
AreNear skus n marks = (place : ℕ) → mark_at marks place ≡ true
    → reaches skus (name_at skus place) n ≡ true
