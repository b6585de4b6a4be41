-- The walk from a SKU to its parent, to that one's parent, and so on (EDK II DSC specification,
-- section 3.5).
use Rattle.std.specs.Prelude.{◌≡◌, ◌≤◌, ℕ, zero, suc, List, [], ◌∷◌, length, Option, Some, None, if◌then◌else◌, codes}
use Rattle.std.specs.Option.{option_and_then}
use Rattle.std.specs.Str.{bytes_eq}
use Rattle.doc_types.specs.declared.platform.Sku.{Sku}

-- the parent that the first SKU of a name states
abbrev pub stated_parent : List Sku → List ℕ → Option (List ℕ)
stated_parent [] name = None
stated_parent (sku ∷ skus) name = if bytes_eq sku.name name then Some sku.parent
    else stated_parent skus name

-- DEFAULT has none
unfoldable pub parent : List Sku → List ℕ → Option (List ℕ)
parent skus name = if bytes_eq name (codes "DEFAULT") then None else stated_parent skus name

-- the name that so many steps of the walk lead to
unfoldable pub after : List Sku → List ℕ → ℕ → Option (List ℕ)
after skus name zero = Some name
after skus name (suc steps) = option_and_then (λ next. after skus next steps) (parent skus name)

-- the walk ends at DEFAULT, in at most as many steps as there are SKUs
pub record EndsAtDefault (skus : List Sku) (name : List ℕ) : Type 0 where
  pub steps : ℕ
  pub few : steps ≤ length skus
  pub there : after skus name steps ≡ Some (codes "DEFAULT")
