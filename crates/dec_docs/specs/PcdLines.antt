-- The line of a PCD: `Space.Name|Default|Type|Token`.
use Rattle.std.specs.Prelude.{ℕ, ◌==◌, nat_lt, if◌then◌else◌, List, [], ◌∷◌, length, Option, Some, None}
use Rattle.build_base.specs.First.{first_of}
use Rattle.build_base.specs.FaultText.{fault_of}
use Rattle.build_base.specs.declared.fault.Fault.{Fault}
use Rattle.build_base.specs.declared.lines.Taken.{Taken}
use Rattle.meta_lexer.specs.Faults.{first_fault}
use Rattle.meta_lexer.specs.Numbers.{number_of}
use Rattle.meta_lexer.specs.Parts.{field_texts}
use Rattle.doc_reading.specs.ValueFields.{undefined_macro}
use Rattle.doc_reading.specs.Values.{require, of_read_line}
use Rattle.doc_types.specs.Pcds.{datum_named, pcd_name_of}
use Rattle.doc_types.specs.declared.arch.Arch.{Arch}
use Rattle.doc_types.specs.declared.pcd.Datum.{Datum}
use Rattle.doc_types.specs.declared.pcd.Kind.{Kind}
use Rattle.doc_types.specs.declared.pcd.PcdName.{PcdName}
use Rattle.dec_docs.specs.declared.rows.Declared.TheVariants as row
use Rattle.dec_docs.specs.declared.rows.DecRow.{DecRow}
use Rattle.dec_docs.specs.declared.rows.DecRow.TheVariants.{Row}
use Rattle.build_base.specs.FaultCodes.{BAD_NUMBER, BAD_TOKEN, DEC_BAD_PCD_LINE}

-- a line that declares no PCD
abbrev pub bad_line : Taken → Fault
bad_line line = fault_of DEC_BAD_PCD_LINE line.at line.text

-- a macro that isn't defined, in the fields before the token
abbrev pub words_fault : Taken → List ℕ → List ℕ → List ℕ → Option Fault
words_fault line name default datum =
    first_of (undefined_macro line.at name ∷ undefined_macro line.at default
    ∷ undefined_macro line.at datum ∷ [])

-- a name, a default that isn't empty and a type
abbrev pub parts_fault : Taken → Option PcdName → List ℕ → Option Datum → Option Fault
parts_fault line (Some pcd) default (Some datum) =
    if length default == 0 then Some (bad_line line) else None
parts_fault line (Some pcd) default None = Some (bad_line line)
parts_fault line None default datum = Some (bad_line line)

-- a token of at most 32 bits
abbrev pub token_fault : Taken → List ℕ → Option ℕ → Option Fault
token_fault line token (Some number) = if nat_lt number 4294967296 then None
    else Some (fault_of BAD_TOKEN line.at token)
token_fault line token None = None

abbrev pub token_of : Option ℕ → Option ℕ
token_of (Some number) = if nat_lt number 4294967296 then Some number else None
token_of None = None

-- of other fields than four
abbrev pub other_faults : Taken → List (List ℕ) → List (Option Fault)
other_faults line fields = first_fault (undefined_macro line.at) fields ∷ Some (bad_line line) ∷ []

-- exactly four fields
abbrev pub fields_faults : Taken → List (List ℕ) → List (Option Fault)
fields_faults line (name ∷ default ∷ datum ∷ token ∷ []) =
    require (number_of token) (fault_of BAD_NUMBER line.at token)
    ∷ words_fault line name default datum ∷
    parts_fault line (pcd_name_of name) default (datum_named datum)
    ∷ token_fault line token (number_of token) ∷ []
fields_faults line fields = other_faults line fields

abbrev pub made_pcd : Taken → Arch → Kind → Option PcdName → List ℕ → Option Datum → Option ℕ
    → Option DecRow
made_pcd line arch kind (Some pcd) default (Some datum) (Some token) =
    Some
    (Row
    (row.Pcd
    (record {
      at = line.at;
      arch = arch;
      kind = kind;
      pcd = pcd;
      default = default;
      datum =
          datum;
      token = token;
    })))
made_pcd line arch kind (Some pcd) default (Some datum) None = None
made_pcd line arch kind (Some pcd) default None token = None
made_pcd line arch kind None default datum token = None

abbrev pub fields_row : Taken → Arch → Kind → List (List ℕ) → Option DecRow
fields_row line arch kind (name ∷ default ∷ datum ∷ token ∷ []) =
    made_pcd line arch kind (pcd_name_of name) default (datum_named datum)
    (token_of (number_of token))
fields_row line arch kind fields = None

unfoldable pub pcd_line_faults : Taken → List (Option Fault)
pcd_line_faults line = of_read_line line (fields_faults line (field_texts line.text))

unfoldable pub pcd_line_row : Taken → Arch → Kind → Option DecRow
pcd_line_row line arch kind = fields_row line arch kind (field_texts line.text)
