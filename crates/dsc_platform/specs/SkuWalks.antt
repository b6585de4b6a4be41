-- That each SKU's walk by parents comes to DEFAULT (EDK II DSC specification, section 3.5). Which
-- line is told is this project's own rule.
use Rattle.std.specs.Prelude.{ℕ, suc, zero, ◌+◌, ◌==◌, Bool, false, ◌||◌, if◌then◌else◌, List, [], ◌∷◌, map, length, slice_get, Option, Some, None}
use Rattle.build_base.specs.First.{or_else}
use Rattle.build_base.specs.FaultText.{fault_of}
use Rattle.build_base.specs.declared.fault.Fault.{Fault}
use Rattle.dsc_lines.specs.declared.rows.SkuLine.{SkuLine}
use Rattle.dsc_lines.specs.SkuLines.{is_default, place_of}
use Rattle.dsc_platform.specs.Stating.{names_of}
use Rattle.build_base.specs.FaultCodes.{SKU_LOOP}

-- where the parent of a SKU stands; DEFAULT has none
abbrev pub parent_place : List (List ℕ) → SkuLine → Option ℕ
parent_place names line = if is_default line.sku.name then None else place_of line.sku.parent names

abbrev pub parents_of : List SkuLine → List (Option ℕ)
parents_of skus = map (parent_place (names_of skus)) skus

abbrev pub joined : Option (Option ℕ) → Option ℕ
joined None = None
joined (Some place) = place

-- the place behind a place
abbrev pub next_of : List (Option ℕ) → ℕ → Option ℕ
next_of parents place = joined (slice_get parents place)

-- whether a walk comes by a place within so many steps
unfoldable pub comes_by : List (Option ℕ) → ℕ → ℕ → Option ℕ → Bool
comes_by parents target zero place = false
comes_by parents target (suc steps) None = false
comes_by parents target (suc steps) (Some place) =
    (place == target) || comes_by parents target steps (next_of parents place)

-- a walk that meets its start does so within as many steps as there are SKUs
abbrev pub is_loop : List (Option ℕ) → ℕ → Bool
is_loop parents place = comes_by parents place (length parents) (next_of parents place)

abbrev pub loop_fault : List (Option ℕ) → ℕ → SkuLine → Option Fault
loop_fault parents place line = if is_loop parents place
    then Some (fault_of SKU_LOOP line.at line.sku.name) else None

abbrev pub loops_from : List (Option ℕ) → ℕ → List SkuLine → Option Fault
loops_from parents place [] = None
loops_from parents place (line ∷ lines) =
    or_else (loop_fault parents place line) (loops_from parents (place + 1) lines)

-- the first SKU whose walk meets its start
unfoldable pub loops_fault : List SkuLine → Option Fault
loops_fault skus = loops_from (parents_of skus) 0 skus
