-- The value of a SKU: its own, else that of its parent, and so on up to DEFAULT (EDK II DSC
-- specification, section 3.5).
use Rattle.std.specs.Prelude.{◌≡◌, ℕ, zero, suc, ◌+◌, List, [], ◌∷◌, length, Option, Some, None, if◌then◌else◌}
use Rattle.std.specs.Option.{option_and_then}
use Rattle.std.specs.Str.{bytes_eq}
use Rattle.build_base.specs.First.{or_else}
use Rattle.doc_types.specs.SkuWalks.{parent, after}
use Rattle.doc_types.specs.declared.platform.Sku.{Sku}
use Rattle.doc_types.specs.declared.values.SkuRow.{SkuRow}

-- the value that a SKU has of its own
abbrev pub own_value : List SkuRow → List ℕ → Option (List ℕ)
own_value [] name = None
own_value (row ∷ rows) name = if bytes_eq row.sku name then Some row.value else own_value rows name

-- the value of the first SKU that has one, of the first n of the walk
unfoldable pub value_within : List SkuRow → List Sku → List ℕ → ℕ → Option (List ℕ)
value_within rows skus name zero = None
value_within rows skus name (suc n) =
    or_else (own_value rows name)
    (option_and_then (λ next. value_within rows skus next n) (parent skus name))

-- the walk has ended after one step more than there are SKUs
abbrev pub WalkEnds : List Sku → List ℕ → Type 0
WalkEnds skus name = after skus name (length skus + 1) ≡ None

-- it is the value of the first SKU with a value on the whole walk, however long
abbrev pub IsSkuValue : List SkuRow → List Sku → List ℕ → Option (List ℕ) → Type 0
IsSkuValue rows skus name value = (n : ℕ) → after skus name n ≡ None
    → value_within rows skus name n ≡ value
