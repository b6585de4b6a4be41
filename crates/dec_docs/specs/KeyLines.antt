-- The lines of [Defines].
use Rattle.std.specs.Prelude.{ℕ, List, [], ◌∷◌, Option, Some, None, codes}
use Rattle.std.specs.Option.{option_map}
use Rattle.build_base.specs.FaultText.{fault_of}
use Rattle.build_base.specs.Guid.{guid_of}
use Rattle.build_base.specs.declared.fault.Fault.{Fault}
use Rattle.build_base.specs.declared.lines.Taken.{Taken}
use Rattle.meta_lexer.specs.Words.{split_once}
use Rattle.doc_reading.specs.SegmentNames.{segment_name}
use Rattle.doc_reading.specs.Least.{fault_in}
use Rattle.doc_reading.specs.ValueFields.{undefined_macro}
use Rattle.meta_lexer.specs.Lookup.{lookup}
use Rattle.doc_reading.specs.Values.{require, of_read_line}
use Rattle.dec_docs.specs.declared.key_line.DecKey as key_type
use Rattle.dec_docs.specs.declared.key_line.DecKey.TheVariants as key
use Rattle.dec_docs.specs.declared.rows.DecRow.{DecRow}
use Rattle.dec_docs.specs.declared.rows.DecRow.TheVariants.{Name, Guid}
use Rattle.build_base.specs.FaultCodes.{DEC_BAD_GUID}

abbrev pub keys : List (List ℕ × key_type.DecKey)
keys = (codes "PACKAGE_NAME", key.Name) ∷ (codes "PACKAGE_GUID", key.Guid) ∷ []

unfoldable pub key_named : List ℕ → Option key_type.DecKey
key_named word = lookup keys word

-- a line of another key is read past
abbrev pub key_faults : Taken → Option key_type.DecKey → List ℕ → List (Option Fault)
key_faults line (Some key.Name) value =
    of_read_line line (fault_in (segment_name line.at value) ∷ [])
key_faults line (Some key.Guid) value =
    of_read_line line (undefined_macro line.at value
    ∷ require (guid_of value) (fault_of DEC_BAD_GUID line.at value) ∷ [])
key_faults line None value = []

abbrev pub key_row : Option key_type.DecKey → List ℕ → Option DecRow
key_row (Some key.Name) value = Some (Name value)
key_row (Some key.Guid) value = option_map Guid (guid_of value)
key_row None value = None

-- `KEY = VALUE`; a line without `=` is read past
abbrev pub pair_faults : Taken → Option (List ℕ × List ℕ) → List (Option Fault)
pair_faults line (Some p) = key_faults line (key_named p.0) p.1
pair_faults line None = []

abbrev pub pair_row : Option (List ℕ × List ℕ) → Option DecRow
pair_row (Some p) = key_row (key_named p.0) p.1
pair_row None = None

unfoldable pub key_line_faults : Taken → List (Option Fault)
key_line_faults line = pair_faults line (split_once 61 line.text)

unfoldable pub key_line_row : Taken → Option DecRow
key_line_row line = pair_row (split_once 61 line.text)
