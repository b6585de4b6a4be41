-- Numbers of keys (EDK II FDF specification, sections 3.5 and 3.7): expressions, behind which a PCD
-- may stand.
use Rattle.std.specs.Prelude.{ℕ, Bool, nat_le, if◌then◌else◌, List, [], ◌∷◌, Option, Some, None, Result, Ok, Err, decimal}
use Rattle.build_base.specs.FaultText.{fault_of}
use Rattle.build_base.specs.declared.fault.Fault.{Fault}
use Rattle.build_base.specs.declared.lines.Taken.{Taken}
use Rattle.meta_lexer.specs.Faults.{first_fault}
use Rattle.meta_lexer.specs.Parts.{first_text, field_texts}
use Rattle.doc_reading.specs.Least.{fault_in}
use Rattle.doc_reading.specs.ValueFields.{number_value, undefined_macro}
use Rattle.doc_types.specs.Pcds.{pcd_name_of}
use Rattle.doc_types.specs.Volumes.{size_limit}
use Rattle.doc_types.specs.declared.pcd.PcdName.{PcdName}
use Rattle.fdf_words.specs.declared.number.NumberForm.{NumberForm}
use Rattle.fdf_words.specs.declared.number.NumberForm.TheVariants.{Plain, Polarity, Address, Size}
use Rattle.fdf_words.specs.declared.number.Numbered.{Numbered}
use Rattle.build_base.specs.FaultCodes.{BAD_KEY, SIZE_TOO_LARGE}

-- a fault whose detail is the whole line
abbrev pub bad_line : ℕ → Taken → Fault
bad_line code line = fault_of code line.at line.text

-- a value that a key doesn't take
abbrev pub bad_value : Taken → List ℕ → Fault
bad_value line value = fault_of BAD_KEY line.at value

-- macros that aren't defined, behind the first field
abbrev pub later_macros : Taken → List (List ℕ) → Option Fault
later_macros line (number ∷ fields) = first_fault (undefined_macro line.at) fields
later_macros line [] = None

-- the PCD that takes a number
abbrev pub named_pcd : NumberForm → List (List ℕ) → Option PcdName
named_pcd Address (number ∷ name ∷ []) = pcd_name_of name
named_pcd Size (number ∷ name ∷ []) = pcd_name_of name
named_pcd form fields = None

-- a number alone, or where the key allows it a number and a PCD
abbrev pub form_fault : Taken → List ℕ → List (List ℕ) → Option PcdName → Option Fault
form_fault line value (number ∷ []) pcd = None
form_fault line value (number ∷ name ∷ []) (Some pcd) = None
form_fault line value fields pcd = Some (bad_value line value)

-- a polarity is 1 or 0, a device has at most 0x10000000 bytes
abbrev pub limit_fault : Taken → NumberForm → List ℕ → ℕ → Option Fault
limit_fault line Polarity value number = if nat_le number 1 then None
    else Some (bad_value line value)
limit_fault line Size value number = if nat_le number size_limit then None
    else Some (fault_of SIZE_TOO_LARGE line.at (decimal number))
limit_fault line Plain value number = None
limit_fault line Address value number = None

abbrev pub limit_found : Taken → NumberForm → List ℕ → Result ℕ Fault → Option Fault
limit_found line form value (Ok number) = limit_fault line form value number
limit_found line form value (Err fault) = None

-- a key that may not stand here
abbrev pub order_fault : Taken → List ℕ → Bool → Option Fault
order_fault line key misplaced = if misplaced then Some (fault_of BAD_KEY line.at key) else None

abbrev pub fields_faults : Taken → NumberForm → List ℕ → List ℕ → Bool → List (List ℕ)
    → List (Option Fault)
fields_faults line form key value misplaced fields =
    fault_in (number_value line.at (first_text fields))
    ∷ later_macros line fields
    ∷ form_fault line value fields (named_pcd form fields)
    ∷ limit_found line form value (number_value line.at (first_text fields))
    ∷ order_fault line key misplaced
    ∷ []

abbrev pub numbered : Result ℕ Fault → Option PcdName → Option Numbered
numbered (Ok number) pcd = Some (record { number = number; pcd = pcd })
numbered (Err fault) pcd = None

abbrev pub fields_number : Taken → NumberForm → List (List ℕ) → Option Numbered
fields_number line form fields =
    numbered (number_value line.at (first_text fields)) (named_pcd form fields)

unfoldable pub number_faults : Taken → NumberForm → List ℕ → List ℕ → Bool → List (Option Fault)
number_faults line form key value misplaced =
    fields_faults line form key value misplaced (field_texts value)

unfoldable pub number_of_field : Taken → NumberForm → List ℕ → Option Numbered
number_of_field line form value = fields_number line form (field_texts value)
