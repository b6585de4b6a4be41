-- The lines of [Defines] (EDK II DSC specification, section 3.4).
use Rattle.std.specs.Prelude.{ℕ, List, [], ◌∷◌, Option, Some, None, Result, Ok, Err, codes}
use Rattle.std.specs.Option.{option_map}
use Rattle.build_base.specs.FaultText.{fault_of}
use Rattle.build_base.specs.Guid.{guid_of}
use Rattle.build_base.specs.Path.{path_field}
use Rattle.build_base.specs.declared.fault.Fault.{Fault}
use Rattle.build_base.specs.declared.lines.Taken.{Taken}
use Rattle.meta_lexer.specs.Lookup.{lookup}
use Rattle.meta_lexer.specs.Words.{split_once}
use Rattle.macro_expressions.specs.Macros.{without_workspace}
use Rattle.doc_reading.specs.SegmentNames.{segment_name}
use Rattle.doc_reading.specs.Least.{fault_in}
use Rattle.doc_reading.specs.ValueFields.{undefined_macro, text_value, path_value}
use Rattle.doc_reading.specs.Values.{require, of_read_line}
use Rattle.dsc_lines.specs.Arches.{arches_value}
use Rattle.dsc_lines.specs.declared.key_line.PlatformKey.{PlatformKey}
use Rattle.dsc_lines.specs.declared.key_line.PlatformKey.TheVariants as key
use Rattle.dsc_lines.specs.declared.rows.KeyValue.{KeyValue}
use Rattle.dsc_lines.specs.declared.rows.KeyValue.TheVariants as value_of
use Rattle.dsc_lines.specs.declared.rows.DscRow.{DscRow}
use Rattle.dsc_lines.specs.declared.rows.DscRow.TheVariants.{Key}
use Rattle.build_base.specs.FaultCodes.{BAD_PATH, DSC_BAD_GUID}

abbrev pub keys : List (List ℕ × PlatformKey)
keys =
    (codes "PLATFORM_NAME", key.Name) ∷ (codes "PLATFORM_GUID", key.Guid)
    ∷ (codes "SUPPORTED_ARCHITECTURES", key.Arches) ∷
    (codes "OUTPUT_DIRECTORY", key.Output) ∷ (codes "SKUID_IDENTIFIER", key.SkuChoice)
    ∷ (codes "FLASH_DEFINITION", key.Flash) ∷ []

unfoldable pub key_named : List ℕ → Option PlatformKey
key_named word = lookup keys word

-- the row that an outcome's value makes
abbrev pub row_with : {T : Type 0} → (T → KeyValue) → Result T Fault → Option DscRow
row_with make (Ok value) = Some (Key (make value))
row_with make (Err fault) = None

abbrev pub guid_faults : Taken → List ℕ → List (Option Fault)
guid_faults line value = undefined_macro line.at value
    ∷ require (guid_of value) (fault_of DSC_BAD_GUID line.at value) ∷ []

abbrev pub guid_row : List ℕ → Option DscRow
guid_row value = option_map (λ guid. Key (value_of.Guid guid)) (guid_of value)

abbrev pub output_faults : Taken → List ℕ → List (Option Fault)
output_faults line value = require (path_field (without_workspace value))
    (fault_of BAD_PATH line.at value) ∷ []

abbrev pub output_row : List ℕ → Option DscRow
output_row value = option_map (λ folder. Key (value_of.Output folder))
    (path_field (without_workspace value))

-- the faults of a key's value, one for each code
abbrev pub key_faults : Taken → PlatformKey → List ℕ → List (Option Fault)
key_faults line key.Name value = fault_in (segment_name line.at value) ∷ []
key_faults line key.Guid value = guid_faults line value
key_faults line key.Arches value = fault_in (arches_value line.at value) ∷ []
key_faults line key.Output value = output_faults line value
key_faults line key.SkuChoice value = fault_in (text_value line.at value) ∷ []
key_faults line key.Flash value = fault_in (path_value line.at value) ∷ []

abbrev pub key_row : Taken → PlatformKey → List ℕ → Option DscRow
key_row line key.Name value = row_with value_of.Name (segment_name line.at value)
key_row line key.Guid value = guid_row value
key_row line key.Arches value = row_with value_of.Arches (arches_value line.at value)
key_row line key.Output value = output_row value
key_row line key.SkuChoice value =
    row_with (λ choice. value_of.SkuChoice line.at choice) (text_value line.at value)
key_row line key.Flash value = row_with value_of.Flash (path_value line.at value)

-- a line of another key is read past
abbrev pub pair_faults : Taken → Option PlatformKey → List ℕ → List (Option Fault)
pair_faults line (Some key) value = of_read_line line (key_faults line key value)
pair_faults line None value = []

abbrev pub pair_row : Taken → Option PlatformKey → List ℕ → Option DscRow
pair_row line (Some key) value = key_row line key value
pair_row line None value = None

abbrev pub halves_faults : Taken → Option (List ℕ × List ℕ) → List (Option Fault)
halves_faults line (Some p) = pair_faults line (key_named p.0) p.1
halves_faults line None = []

abbrev pub halves_row : Taken → Option (List ℕ × List ℕ) → Option DscRow
halves_row line (Some p) = pair_row line (key_named p.0) p.1
halves_row line None = None

-- `KEY = VALUE`; a line without `=` is read past
unfoldable pub key_line_faults : Taken → List (Option Fault)
key_line_faults line = halves_faults line (split_once 61 line.text)

unfoldable pub key_line_row : Taken → Option DscRow
key_line_row line = halves_row line (split_once 61 line.text)
