-- That each SKU that is named is one of [SkuIds]. The order of the places is this project's own
-- rule.
use Rattle.std.specs.Prelude.{ℕ, Bool, true, false, ◌&&◌, ◌||◌, if◌then◌else◌, List, [], ◌∷◌, Option, Some, None, codes}
use Rattle.std.specs.List.{flat_map, list_any}
use Rattle.build_base.specs.First.{or_else}
use Rattle.build_base.specs.FaultText.{fault_of}
use Rattle.build_base.specs.declared.fault.Fault.{Fault}
use Rattle.build_base.specs.declared.fault.Place.{Place}
use Rattle.meta_lexer.specs.Faults.{first_fault}
use Rattle.meta_lexer.specs.Parts.{field_texts}
use Rattle.meta_lexer.specs.Words.{same_word}
use Rattle.doc_reading.specs.Grammar.{Read, entered, gave}
use Rattle.dsc_lines.specs.declared.rows.KeyValue.TheVariants.{SkuChoice}
use Rattle.dsc_lines.specs.declared.rows.DscRow.{DscRow}
use Rattle.dsc_lines.specs.declared.rows.DscRow.TheVariants.{Key, Sku}
use Rattle.dsc_lines.specs.declared.section.Scope.{Scope}
use Rattle.dsc_lines.specs.declared.section.Scope.TheVariants as scope
use Rattle.dsc_platform.specs.declared.sku_uses.SkuUse.{SkuUse}
use Rattle.dsc_lines.specs.PcdLines.{is_there}
use Rattle.dsc_lines.specs.SkuLines.{is_default, place_of}
use Rattle.build_base.specs.FaultCodes.{SKU_UNKNOWN}

-- a head of PCDs names a SKU
abbrev pub head_uses : Place → Scope → List SkuUse
head_uses at (scope.Pcds p) = record { at = at; text = p.sku; chosen = false } ∷ []
head_uses at head = []

abbrev pub parent_uses : Place → List ℕ → List ℕ → List SkuUse
parent_uses at name parent = if is_default name then []
    else record { at = at; text = parent; chosen = false } ∷ []

-- a SKU names its parent, and SKUID_IDENTIFIER those of the platform
abbrev pub row_uses : DscRow → List SkuUse
row_uses (Sku line) = parent_uses line.at line.sku.name line.sku.parent
row_uses (Key (SkuChoice at choice)) = record { at = at; text = choice; chosen = true } ∷ []
row_uses row = []

abbrev pub uses_in : Read Scope DscRow → List SkuUse
uses_in (entered at scopes) = flat_map (head_uses at) scopes
uses_in (gave rows) = flat_map row_uses rows

abbrev pub uses_of : List (Read Scope DscRow) → List SkuUse
uses_of reads = flat_map uses_in reads

-- DEFAULT is there in any case
abbrev pub is_known : List (List ℕ) → List ℕ → Bool
is_known names name = is_default name || is_there (place_of name names)

abbrev pub unknown : Place → List (List ℕ) → List ℕ → Option Fault
unknown at names name = if is_known names name then None else Some (fault_of SKU_UNKNOWN at name)

-- `ALL`, or names with `|` between them
abbrev pub chosen_unknown : Place → List (List ℕ) → List ℕ → Option Fault
chosen_unknown at names text = if same_word text (codes "ALL") then None
    else first_fault (unknown at names) (field_texts text)

abbrev pub use_fault : List (List ℕ) → SkuUse → Option Fault
use_fault names use_ = if use_.chosen then chosen_unknown use_.at names use_.text
    else unknown use_.at names use_.text

abbrev pub is_chosen : SkuUse → Bool
is_chosen use_ = use_.chosen

-- a SKUID_IDENTIFIER that a later one overrides names none
abbrev pub standing_fault : List (List ℕ) → SkuUse → List SkuUse → Option Fault
standing_fault names use_ later = if use_.chosen && list_any is_chosen later then None
    else use_fault names use_

-- the first name that is no SKU's
abbrev pub uses_fault : List (List ℕ) → List SkuUse → Option Fault
uses_fault names [] = None
uses_fault names (use_ ∷ later) = or_else (standing_fault names use_ later) (uses_fault names later)
