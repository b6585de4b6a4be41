-- Whether the walk from each SKU by its parents ends at DEFAULT (EDK II DSC specification, section
-- 3.5).
use Rattle.std.specs.Prelude.{ℕ, zero, suc, ◌||◌, Bool, false, List, length, Option, Some, None, codes}
use Rattle.std.specs.List.{list_all}
use Rattle.std.specs.Option.{option_map}
use Rattle.std.specs.Str.{bytes_eq}
use Rattle.doc_types.specs.SkuWalks.{parent}
use Rattle.doc_types.specs.declared.platform.Sku.{Sku}

abbrev pub or_not : Option Bool → Bool
or_not None = false
or_not (Some b) = b

abbrev pub is_default : List ℕ → Bool
is_default name = bytes_eq name (codes "DEFAULT")

-- DEFAULT is so many steps away at most
unfoldable pub reaches : List Sku → List ℕ → ℕ → Bool
reaches skus name zero = is_default name
reaches skus name (suc n) =
    is_default name || or_not (option_map (λ next. reaches skus next n) (parent skus name))

unfoldable pub skus_end : List Sku → Bool
skus_end skus = list_all (λ sku. reaches skus sku.name (length skus)) skus
