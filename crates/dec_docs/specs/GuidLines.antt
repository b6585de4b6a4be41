-- The line of a GUID: `Name = { u32, u16, u16, { eight bytes } }`.
use Rattle.std.specs.Prelude.{ℕ, if◌then◌else◌, List, [], ◌∷◌, Option, Some, None}
use Rattle.build_base.specs.First.{first_of}
use Rattle.build_base.specs.FaultText.{fault_of}
use Rattle.build_base.specs.declared.fault.Fault.{Fault}
use Rattle.build_base.specs.declared.guid.Guid.{Guid as GuidBytes}
use Rattle.build_base.specs.declared.lines.Taken.{Taken}
use Rattle.meta_lexer.specs.GuidBraces.{guid_of_braces}
use Rattle.meta_lexer.specs.Parts.{first_text, field_texts}
use Rattle.meta_lexer.specs.Words.{split_once, is_identifier}
use Rattle.doc_reading.specs.ValueFields.{undefined_macro}
use Rattle.doc_reading.specs.Values.{require, of_read_line}
use Rattle.doc_types.specs.declared.arch.Arch.{Arch}
use Rattle.dec_docs.specs.declared.rows.Declared.TheVariants as row
use Rattle.dec_docs.specs.declared.rows.DecRow.{DecRow}
use Rattle.dec_docs.specs.declared.rows.DecRow.TheVariants.{Row}
use Rattle.build_base.specs.FaultCodes.{DEC_BAD_GUID}

-- a macro that isn't defined
abbrev pub words_fault : Taken → List ℕ → List ℕ → Option Fault
words_fault line name value =
    first_of (undefined_macro line.at name ∷ undefined_macro line.at value ∷ [])

-- a line that declares no name of a GUID
abbrev pub bad_line : Taken → Fault
bad_line line = fault_of DEC_BAD_GUID line.at line.text

abbrev pub pair_fault : Taken → List ℕ → List ℕ → Option GuidBytes → Option Fault
pair_fault line name value guid = if is_identifier name
    then require guid (fault_of DEC_BAD_GUID line.at value) else Some (bad_line line)

abbrev pub field_faults : Taken → List ℕ → Option (List ℕ × List ℕ) → List (Option Fault)
field_faults line field (Some p) = words_fault line p.0 p.1
    ∷ pair_fault line p.0 p.1 (guid_of_braces p.1) ∷ []
field_faults line field None = undefined_macro line.at field ∷ Some (bad_line line) ∷ []

abbrev pub named_guid : Taken → Arch → List ℕ → Option GuidBytes → Option DecRow
named_guid line arch name (Some guid) =
    Some (Row (row.Guid (record { at = line.at; arch = arch; name = name; guid = guid })))
named_guid line arch name None = None

abbrev pub field_row : Taken → Arch → Option (List ℕ × List ℕ) → Option DecRow
field_row line arch (Some p) = named_guid line arch p.0 (guid_of_braces p.1)
field_row line arch None = None

abbrev pub guid_field : Taken → List ℕ
guid_field line = first_text (field_texts line.text)

-- in the first field; others are read past
unfoldable pub guid_line_faults : Taken → List (Option Fault)
guid_line_faults line = of_read_line line
    (field_faults line (guid_field line) (split_once 61 (guid_field line)))

unfoldable pub guid_line_row : Taken → Arch → Option DecRow
guid_line_row line arch = field_row line arch (split_once 61 (guid_field line))
