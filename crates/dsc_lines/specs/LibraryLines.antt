-- The line of a library: `Class|path` (EDK II DSC specification, section 3.7).
use Rattle.std.specs.Prelude.{ℕ, if◌then◌else◌, List, [], ◌∷◌, Option, Some, None}
use Rattle.build_base.specs.FaultText.{fault_of}
use Rattle.build_base.specs.Path.{path_field}
use Rattle.build_base.specs.declared.fault.Fault.{Fault}
use Rattle.build_base.specs.declared.lines.Taken.{Taken}
use Rattle.meta_lexer.specs.Parts.{field_texts}
use Rattle.meta_lexer.specs.Words.{is_identifier}
use Rattle.macro_expressions.specs.Macros.{without_workspace}
use Rattle.doc_reading.specs.ValueFields.{undefined_macro}
use Rattle.doc_reading.specs.Values.{require, of_read_line}
use Rattle.doc_types.specs.declared.arch.Arch.{Arch}
use Rattle.doc_types.specs.declared.module_type.ModuleType.{ModuleType}
use Rattle.doc_types.specs.declared.platform.LibraryLine.{LibraryLine}
use Rattle.dsc_lines.specs.Forms.{formless}
use Rattle.build_base.specs.FaultCodes.{BAD_LIBRARY_LINE, BAD_PATH}

abbrev pub class_fault : Taken → List ℕ → Option Fault
class_fault line class = if is_identifier class
    then None else Some (fault_of BAD_LIBRARY_LINE line.at line.text)

-- the faults of a line with these fields, one for each code
abbrev pub fields_faults : Taken → List (List ℕ) → List (Option Fault)
fields_faults line (class ∷ path ∷ []) =
    class_fault line class ∷ undefined_macro line.at class
    ∷ require (path_field (without_workspace path)) (fault_of BAD_PATH line.at path) ∷ []
fields_faults line fields = formless BAD_LIBRARY_LINE line fields

abbrev pub made_library : Taken → Arch → Option ModuleType → List ℕ → Option (List ℕ)
    → Option LibraryLine
made_library line arch kind class (Some instance) =
    Some (record { at = line.at; arch = arch; kind = kind; class = class; instance = instance })
made_library line arch kind class None = None

abbrev pub fields_library : Taken → Arch → Option ModuleType → List (List ℕ) → Option LibraryLine
fields_library line arch kind (class ∷ path ∷ []) =
    made_library line arch kind class (path_field (without_workspace path))
fields_library line arch kind fields = None

unfoldable pub library_faults : Taken → List (Option Fault)
library_faults line = of_read_line line (fields_faults line (field_texts line.text))

unfoldable pub library_of : Taken → Arch → Option ModuleType → Option LibraryLine
library_of line arch kind = fields_library line arch kind (field_texts line.text)
