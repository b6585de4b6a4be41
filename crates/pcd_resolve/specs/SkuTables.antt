-- Tables of SKUs, by which the SKU whose value each one takes is found in one pass. How they are laid
-- out is this project's own.
use Rattle.std.specs.Prelude.{◌≡◌, ◌≤◌, ℕ, Bool, nat_eq, find, if◌then◌else◌, List, [], length, drop, slice_get, Option, Some, None, codes}
use Rattle.std.specs.Cmp.Lexicographic.{pointwise}
use Rattle.std.specs.HashMap.{HashMap, get}
use Rattle.std.specs.Option.{option_map}
use Rattle.std.specs.Str.{bytes_eq}
use Rattle.doc_types.specs.declared.platform.Sku.{Sku}
use Rattle.doc_types.specs.declared.values.SkuRow.{SkuRow}
use Rattle.doc_types.specs.SkuWalks.{parent}
use Rattle.pcd_values.specs.Skus.{value_within}
use Rattle.pcd_ranks.specs.Listing.{Stated}
use Rattle.pcd_resolve.specs.declared.sku_tables.SkuTables.{SkuTables}

abbrev pub same_name : List ℕ → List ℕ → Bool
same_name = pointwise nat_eq

abbrev pub has_name : List ℕ → Sku → Bool
has_name name sku = bytes_eq sku.name name

-- the SKU at a place that a table may have
abbrev pub sku_at : List Sku → Option ℕ → Option Sku
sku_at skus None = None
sku_at skus (Some place) = slice_get skus place

-- a table gives for each name the place of the first SKU that has it, from a place on
abbrev pub FirstsFrom : {S : Type 0} → List Sku → ℕ → HashMap (List ℕ) ℕ S → Type 0
FirstsFrom skus n table =
    (key : List ℕ) → sku_at skus (get same_name table key) ≡ find (has_name key) (drop n skus)

abbrev pub Firsts : {S : Type 0} → List Sku → HashMap (List ℕ) ℕ S → Type 0
Firsts skus table =
    (key : List ℕ) → sku_at skus (get same_name table key) ≡ find (has_name key) skus

abbrev pub name_or : Option Sku → List ℕ
name_or None = []
name_or (Some sku) = sku.name

-- the name of the SKU at a place
abbrev pub name_at : List Sku → ℕ → List ℕ
name_at skus place = name_or (slice_get skus place)

-- a place that is one of a SKU
abbrev pub within : List Sku → Option ℕ → Option ℕ
within skus None = None
within skus (Some place) = option_map (λ sku. place) (slice_get skus place)

abbrev pub up_from : {S : Type 0} → List Sku → HashMap (List ℕ) ℕ S → Option Sku → Option ℕ
up_from skus table None = None
up_from skus table (Some first) = within skus (get same_name table first.parent)

-- where the parent of a name stands, by a table of names
unfoldable pub up_of : {S : Type 0} → List Sku → HashMap (List ℕ) ℕ S → List ℕ → Option ℕ
up_of skus table name = if bytes_eq name (codes "DEFAULT") then None
    else up_from skus table (sku_at skus (get same_name table name))

abbrev pub held : Option (Option ℕ) → Option ℕ
held None = None
held (Some place) = place

-- what a list of places has at a place
abbrev pub at_place : List (Option ℕ) → ℕ → Option ℕ
at_place places place = held (slice_get places place)

-- the place of a SKU leads to that of its parent
abbrev pub AreUps : List Sku → List (Option ℕ) → Type 0
AreUps skus ups = (place up : ℕ) → at_place ups place ≡ Some up
    → parent skus (name_at skus place) ≡ Some (name_at skus up)

-- the tables of some SKUs
pub record AreTables (skus : List Sku) (tables : SkuTables) : Type 0 where
  pub firsts : Firsts skus tables.firsts
  pub ups : AreUps skus tables.ups.items
  pub few : length tables.order.items ≤ length skus

abbrev pub stated_sku : Stated → List ℕ
stated_sku stated = stated.line.sku

-- What is known of sources: a place whose SKU takes its value from the one at another place, within
-- so many steps.
abbrev pub AreKnown : List SkuRow → List Sku → ℕ → List (Option ℕ) → Type 0
AreKnown rows skus n known = (place from : ℕ) → at_place known place ≡ Some from
    → value_within rows skus (name_at skus place) n ≡ Some (name_at skus from)
