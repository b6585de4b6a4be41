-- The PCDs that a module asks for: `Space.Name` or `Space.Name|Default` (EDK II INF specification,
-- PCD sections).
use Rattle.std.specs.Prelude.{ℕ, nat_lt, Bool, true, false, if◌then◌else◌, List, [], ◌∷◌, length, Option, Some, None}
use Rattle.std.specs.Option.{option_map}
use Rattle.build_base.specs.FaultText.{fault_of}
use Rattle.build_base.specs.declared.fault.Fault.{Fault}
use Rattle.build_base.specs.declared.lines.Taken.{Taken}
use Rattle.doc_reading.specs.ValueFields.{undefined_macro}
use Rattle.doc_reading.specs.Values.{require, of_read_line}
use Rattle.doc_types.specs.Pcds.{pcd_name_of}
use Rattle.doc_types.specs.declared.arch.Arch.{Arch}
use Rattle.doc_types.specs.declared.module.UsedPcd.{UsedPcd}
use Rattle.doc_types.specs.declared.pcd.Asked.{Asked}
use Rattle.doc_types.specs.declared.pcd.PcdName.{PcdName}
use Rattle.meta_lexer.specs.Faults.{first_fault}
use Rattle.meta_lexer.specs.Parts.{first_text, field_texts}
use Rattle.build_base.specs.FaultCodes.{BAD_PCD_NAME}

-- one field, or two of which the second isn't empty
abbrev pub is_pcd_form : List (List ℕ) → Bool
is_pcd_form (name ∷ []) = true
is_pcd_form (name ∷ default ∷ []) = nat_lt 0 (length default)
is_pcd_form fields = false

abbrev pub pcd_fault : Taken → List (List ℕ) → Option Fault
pcd_fault line fields =
    if is_pcd_form fields
    then require (pcd_name_of (first_text fields))
    (fault_of BAD_PCD_NAME line.at (first_text fields))
    else Some (fault_of BAD_PCD_NAME line.at (first_text fields))

abbrev pub asked_faults : Taken → List (List ℕ) → List (Option Fault)
asked_faults line fields = first_fault (undefined_macro line.at) fields ∷ pcd_fault line fields ∷ []

unfoldable pub pcd_faults : Taken → List (Option Fault)
pcd_faults line = of_read_line line (asked_faults line (field_texts line.text))

-- the default as written
abbrev pub default_of : List (List ℕ) → Option (List ℕ)
default_of (name ∷ default ∷ more) = Some default
default_of fields = None

abbrev pub used_as : Taken → Arch → Asked → List (List ℕ) → PcdName → UsedPcd
used_as line arch asked fields pcd =
    record { at = line.at; arch = arch; asked = asked; pcd = pcd; default = default_of fields }

abbrev pub asked_pcd : Taken → Arch → Asked → List (List ℕ) → Option UsedPcd
asked_pcd line arch asked fields =
    option_map (used_as line arch asked fields) (pcd_name_of (first_text fields))

unfoldable pub pcd_used : Taken → Arch → Asked → Option UsedPcd
pcd_used line arch asked = asked_pcd line arch asked (field_texts line.text)
