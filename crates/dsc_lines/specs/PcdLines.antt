-- The lines of PCDs (EDK II DSC specification, sections 3.10 to 3.15).
use Rattle.std.specs.Prelude.{ℕ, ◌==◌, ◌&&◌, not, Bool, true, false, nat_lt, if◌then◌else◌, List, [], ◌∷◌, length, Option, Some, None, unwrap_or, codes}
use Rattle.std.specs.Str.{bytes_eq}
use Rattle.build_base.specs.FaultText.{fault_of}
use Rattle.build_base.specs.declared.fault.Fault.{Fault}
use Rattle.build_base.specs.declared.lines.Taken.{Taken}
use Rattle.meta_lexer.specs.Faults.{first_fault}
use Rattle.meta_lexer.specs.Numbers.{number_of}
use Rattle.meta_lexer.specs.Parts.{first_text, field_texts}
use Rattle.meta_lexer.specs.Tokens.{quoted_of}
use Rattle.meta_lexer.specs.Words.{is_identifier}
use Rattle.doc_reading.specs.ValueFields.{undefined_macro}
use Rattle.doc_reading.specs.Values.{require, of_read_line}
use Rattle.doc_types.specs.Pcds.{datum_named, pcd_name_of}
use Rattle.doc_types.specs.declared.arch.Arch.{Arch}
use Rattle.doc_types.specs.declared.pcd.Datum.{Datum}
use Rattle.doc_types.specs.declared.pcd.Kind.{Kind}
use Rattle.doc_types.specs.declared.pcd.PcdName.{PcdName}
use Rattle.doc_types.specs.declared.platform.PcdLine.{PcdLine}
use Rattle.doc_types.specs.declared.platform.Store.{Store}
use Rattle.doc_types.specs.declared.platform.Store.TheVariants as store
use Rattle.dsc_lines.specs.declared.section.StoreKind.{StoreKind}
use Rattle.dsc_lines.specs.declared.section.StoreKind.TheVariants.{Plain, Hii, Vpd}
use Rattle.build_base.specs.FaultCodes.{BAD_NUMBER, DSC_BAD_PCD_LINE}

-- a plain number below 2^32
abbrev pub small_in : Option ℕ → Option ℕ
small_in (Some n) = if nat_lt n 4294967296 then Some n else None
small_in None = None

unfoldable pub small_of : List ℕ → Option ℕ
small_of text = small_in (number_of text)

abbrev pub is_there : {T : Type 0} → Option T → Bool
is_there (Some value) = true
is_there None = false

-- `*`: the build chooses the offset
unfoldable pub is_star : List ℕ → Bool
is_star text = bytes_eq text (codes "*")

-- the field that is a plain number: a maximum or an offset
abbrev pub plain_number : List (List ℕ) → Option (List ℕ)
plain_number (name ∷ value ∷ datum ∷ max ∷ []) = Some max
plain_number fields = None

abbrev pub hii_number : List (List ℕ) → Option (List ℕ)
hii_number (name ∷ variable ∷ guid ∷ offset ∷ []) = Some offset
hii_number (name ∷ variable ∷ guid ∷ offset ∷ default ∷ []) = Some offset
hii_number (name ∷ variable ∷ guid ∷ offset ∷ default ∷ attributes ∷ []) = Some offset
hii_number fields = None

abbrev pub vpd_offset : List ℕ → Option (List ℕ)
vpd_offset offset = if is_star offset then None else Some offset

abbrev pub vpd_number : List (List ℕ) → Option (List ℕ)
vpd_number (name ∷ offset ∷ []) = vpd_offset offset
vpd_number (name ∷ offset ∷ one ∷ []) = vpd_offset offset
vpd_number (name ∷ offset ∷ one ∷ two ∷ []) = vpd_offset offset
vpd_number fields = None

abbrev pub number_field : StoreKind → List (List ℕ) → Option (List ℕ)
number_field Plain fields = plain_number fields
number_field Hii fields = hii_number fields
number_field Vpd fields = vpd_number fields

abbrev pub number_fault : Taken → Option (List ℕ) → Option Fault
number_fault line (Some text) = require (small_of text) (fault_of BAD_NUMBER line.at text)
number_fault line None = None

abbrev pub is_written : List ℕ → Bool
is_written text = not (length text == 0)

-- `L"name"`
abbrev pub is_variable : List ℕ → Bool
is_variable (letter ∷ text) = (letter == 76) && is_there (quoted_of text)
is_variable [] = false

-- `Name|Value`, `Name|Value|Type` or `Name|Value|Type|Maximum`
abbrev pub is_plain_form : List (List ℕ) → Bool
is_plain_form (name ∷ value ∷ []) = is_written value
is_plain_form (name ∷ value ∷ datum ∷ []) = is_written value && is_there (datum_named datum)
is_plain_form (name ∷ value ∷ datum ∷ max ∷ []) = is_written value && is_there (datum_named datum)
is_plain_form fields = false

-- `Name|L"Variable"|GuidName|Offset`, and then a default and attributes
abbrev pub is_hii_front : List ℕ → List ℕ → Bool
is_hii_front variable guid = is_variable variable && is_identifier guid

abbrev pub is_hii_form : List (List ℕ) → Bool
is_hii_form (name ∷ variable ∷ guid ∷ offset ∷ []) = is_hii_front variable guid
is_hii_form (name ∷ variable ∷ guid ∷ offset ∷ default ∷ []) =
    is_hii_front variable guid && is_written default
is_hii_form (name ∷ variable ∷ guid ∷ offset ∷ default ∷ attributes ∷ []) =
    is_hii_front variable guid && is_written default && is_written attributes
is_hii_form fields = false

-- `Name|Offset` and up to two further fields, which mean what the type of the PCD says
abbrev pub is_vpd_form : List (List ℕ) → Bool
is_vpd_form (name ∷ offset ∷ []) = true
is_vpd_form (name ∷ offset ∷ one ∷ []) = is_written one
is_vpd_form (name ∷ offset ∷ one ∷ two ∷ []) = is_written one && is_written two
is_vpd_form fields = false

abbrev pub is_form : StoreKind → List (List ℕ) → Bool
is_form Plain fields = is_plain_form fields
is_form Hii fields = is_hii_form fields
is_form Vpd fields = is_vpd_form fields

abbrev pub form_fault : Taken → StoreKind → Option PcdName → List (List ℕ) → Option Fault
form_fault line kind (Some pcd) fields = if is_form kind fields then None
    else Some (fault_of DSC_BAD_PCD_LINE line.at line.text)
form_fault line kind None fields = Some (fault_of DSC_BAD_PCD_LINE line.at line.text)

-- the faults of a line with these fields, one for each code
abbrev pub fields_faults : Taken → StoreKind → List (List ℕ) → List (Option Fault)
fields_faults line kind fields =
    number_fault line (number_field kind fields) ∷ first_fault (undefined_macro line.at) fields
    ∷ form_fault line kind (pcd_name_of (first_text fields)) fields ∷ []

-- what the fields of a line say
abbrev pub plain_value : List (List ℕ) → Option (List ℕ)
plain_value (name ∷ value ∷ fields) = Some value
plain_value fields = None

abbrev pub hii_value : List (List ℕ) → Option (List ℕ)
hii_value (name ∷ variable ∷ guid ∷ offset ∷ default ∷ fields) = Some default
hii_value fields = None

abbrev pub value_in : StoreKind → List (List ℕ) → Option (List ℕ)
value_in Plain fields = plain_value fields
value_in Hii fields = hii_value fields
value_in Vpd fields = None

abbrev pub plain_datum : List (List ℕ) → Option Datum
plain_datum (name ∷ value ∷ datum ∷ fields) = datum_named datum
plain_datum fields = None

abbrev pub datum_in : StoreKind → List (List ℕ) → Option Datum
datum_in Plain fields = plain_datum fields
datum_in Hii fields = None
datum_in Vpd fields = None

abbrev pub plain_max : List (List ℕ) → Option ℕ
plain_max (name ∷ value ∷ datum ∷ max ∷ fields) = small_of max
plain_max fields = None

abbrev pub max_in : StoreKind → List (List ℕ) → Option ℕ
max_in Plain fields = plain_max fields
max_in Hii fields = None
max_in Vpd fields = None

abbrev pub attributes_in : List (List ℕ) → List ℕ
attributes_in (default ∷ attributes ∷ fields) = attributes
attributes_in fields = []

abbrev pub hii_store : List (List ℕ) → Store
hii_store (name ∷ variable ∷ guid ∷ offset ∷ fields) =
    store.Hii variable guid (unwrap_or (small_of offset) 0) (attributes_in fields)
hii_store fields = store.Plain

abbrev pub vpd_store : List (List ℕ) → Store
vpd_store (name ∷ offset ∷ fields) = store.Vpd (small_of offset) fields
vpd_store fields = store.Plain

abbrev pub store_in : StoreKind → List (List ℕ) → Store
store_in Plain fields = store.Plain
store_in Hii fields = hii_store fields
store_in Vpd fields = vpd_store fields

abbrev pub made_pcd : Taken → Kind → StoreKind → Arch → List ℕ → Option PcdName → List (List ℕ)
    → Option PcdLine
made_pcd line kind stored arch sku (Some pcd) fields =
    Some (record {
      at = line.at;
      arch = arch;
      kind = kind;
      sku = sku;
      pcd = pcd;
      value = value_in stored fields;
      datum = datum_in stored fields;
      max = max_in stored fields;
      store = store_in stored fields;
    })
made_pcd line kind stored arch sku None fields = None

abbrev pub fields_pcd : Taken → Kind → StoreKind → Arch → List ℕ → List (List ℕ) → Option PcdLine
fields_pcd line kind stored arch sku fields =
    made_pcd line kind stored arch sku (pcd_name_of (first_text fields)) fields

unfoldable pub pcd_faults : Taken → StoreKind → List (Option Fault)
pcd_faults line stored = of_read_line line (fields_faults line stored (field_texts line.text))

unfoldable pub pcd_of : Taken → Kind → StoreKind → Arch → List ℕ → Option PcdLine
pcd_of line kind stored arch sku = fields_pcd line kind stored arch sku (field_texts line.text)
