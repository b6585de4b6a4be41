-- The lines of [SkuIds]: `number|Name` and `number|Name|Parent` (EDK II DSC specification, section
-- 3.5).
use Rattle.std.specs.Prelude.{ℕ, suc, ◌==◌, ◌&&◌, ◌||◌, not, Bool, false, nat_lt, nat_le, if◌then◌else◌, List, [], ◌∷◌, length, Option, Some, None, Result, Ok, Err, codes}
use Rattle.std.specs.List.{list_all}
use Rattle.std.specs.Option.{option_map}
use Rattle.std.specs.Str.{bytes_eq}
use Rattle.build_base.specs.FaultText.{fault_of}
use Rattle.build_base.specs.declared.fault.Fault.{Fault}
use Rattle.build_base.specs.declared.lines.Taken.{Taken}
use Rattle.meta_lexer.specs.Faults.{first_fault}
use Rattle.meta_lexer.specs.Parts.{first_text, field_texts}
use Rattle.meta_lexer.specs.Tokens.{is_word_byte}
use Rattle.doc_reading.specs.Least.{fault_in}
use Rattle.doc_reading.specs.ValueFields.{undefined_macro, number_value}
use Rattle.doc_reading.specs.Values.{of_read_line}
use Rattle.dsc_lines.specs.declared.rows.SkuLine.{SkuLine}
use Rattle.dsc_lines.specs.PcdLines.{is_there}
use Rattle.build_base.specs.FaultCodes.{BAD_SKU_LINE}

abbrev pub is_sku_byte : ℕ → Bool
is_sku_byte byte = is_word_byte byte || byte == 45

-- 1 to 64 letters, digits, `_`, `-`
unfoldable pub is_sku_name : List ℕ → Bool
is_sku_name text = nat_lt 0 (length text) && nat_le (length text) 64 && list_all is_sku_byte text

unfoldable pub is_default : List ℕ → Bool
is_default text = bytes_eq text (codes "DEFAULT")

-- where a name stands first among some
unfoldable pub place_of : List ℕ → List (List ℕ) → Option ℕ
place_of name [] = None
place_of name (other ∷ names) = if bytes_eq other name then Some 0
    else option_map suc (place_of name names)

abbrev pub name_field : List (List ℕ) → List ℕ
name_field (number ∷ name ∷ fields) = name
name_field fields = []

abbrev pub others_fault : Taken → List (List ℕ) → Option Fault
others_fault line (number ∷ others) = first_fault (undefined_macro line.at) others
others_fault line [] = None

abbrev pub number_in : Result ℕ Fault → Option ℕ
number_in (Ok n) = Some n
number_in (Err fault) = None

abbrev pub is_other_number : Option ℕ → Bool
is_other_number (Some n) = not (n == 0)
is_other_number None = false

-- DEFAULT has the number 0
abbrev pub is_root_form : Option ℕ → List ℕ → Bool
is_root_form number name = is_sku_name name && not (is_default name && is_other_number number)

-- and no parent
abbrev pub is_child_form : List ℕ → List ℕ → Bool
is_child_form name parent = is_sku_name name && is_sku_name parent && not (is_default name)

abbrev pub is_sku_form : Option ℕ → List (List ℕ) → Bool
is_sku_form number (field ∷ name ∷ []) = is_root_form number name
is_sku_form number (field ∷ name ∷ parent ∷ []) = is_child_form name parent
is_sku_form number fields = false

-- a line of another form, or with a name that stands above
abbrev pub sku_fault : Taken → Option ℕ → List (List ℕ) → Bool → Option Fault
sku_fault line number fields taken = if is_sku_form number fields && not taken then None
    else Some (fault_of BAD_SKU_LINE line.at line.text)

abbrev pub faults_with : Taken → List (List ℕ) → Bool → Result ℕ Fault → List (Option Fault)
faults_with line fields taken number =
    fault_in number ∷ others_fault line fields ∷ sku_fault line (number_in number) fields taken ∷ []

-- the faults of a line with these fields, one for each code; its number is an expression
abbrev pub fields_faults : Taken → List (List ℕ) → Bool → List (Option Fault)
fields_faults line fields taken =
    faults_with line fields taken (number_value line.at (first_text fields))

abbrev pub root_parent : List ℕ → List ℕ
root_parent name = if is_default name then [] else codes "DEFAULT"

-- a SKU without a written parent has DEFAULT
abbrev pub numbered_sku : Taken → ℕ → List (List ℕ) → Option SkuLine
numbered_sku line id (field ∷ name ∷ []) =
    Some (record { at = line.at; sku = record { id = id; name = name; parent = root_parent name } })
numbered_sku line id (field ∷ name ∷ parent ∷ []) =
    Some (record { at = line.at; sku = record { id = id; name = name; parent = parent } })
numbered_sku line id fields = None

abbrev pub sku_with : Taken → List (List ℕ) → Result ℕ Fault → Option SkuLine
sku_with line fields (Ok id) = numbered_sku line id fields
sku_with line fields (Err fault) = None

abbrev pub fields_sku : Taken → List (List ℕ) → Option SkuLine
fields_sku line fields = sku_with line fields (number_value line.at (first_text fields))

-- the faults of a line below lines with these names
unfoldable pub sku_faults : List (List ℕ) → Taken → List (Option Fault)
sku_faults above line = of_read_line line
    (fields_faults line (field_texts line.text)
    (is_there (place_of (name_field (field_texts line.text)) above)))

unfoldable pub sku_of : Taken → Option SkuLine
sku_of line = fields_sku line (field_texts line.text)
