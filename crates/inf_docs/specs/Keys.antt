-- The lines of [Defines] (EDK II INF specification, [Defines] section).
use Rattle.std.specs.Prelude.{ℕ, List, [], ◌∷◌, Option, Some, None, codes}
use Rattle.std.specs.Option.{option_map}
use Rattle.build_base.specs.FaultText.{fault_of}
use Rattle.build_base.specs.Guid.{guid_of}
use Rattle.build_base.specs.declared.fault.Fault.{Fault}
use Rattle.build_base.specs.declared.lines.Taken.{Taken}
use Rattle.doc_reading.specs.ValueFields.{undefined_macro}
use Rattle.doc_reading.specs.Values.{require, of_read_line}
use Rattle.doc_types.specs.ModuleTypes.{module_type_named}
use Rattle.doc_types.specs.declared.arch.Arch.TheVariants.{Common}
use Rattle.meta_lexer.specs.Lookup.{lookup}
use Rattle.meta_lexer.specs.Parts.{field_texts}
use Rattle.meta_lexer.specs.Words.{split_once}
use Rattle.inf_docs.specs.declared.key.ModuleKey.{ModuleKey}
use Rattle.inf_docs.specs.declared.key.ModuleKey.TheVariants.{BaseName, FileGuid, Kind, Version, EntryPoint, Constructor, Destructor, LibraryClass}
use Rattle.inf_docs.specs.declared.row.Row.{Row}
use Rattle.inf_docs.specs.declared.row.Row.TheVariants as row
use Rattle.inf_docs.specs.Classes.{class_faults, class_served}
use Rattle.inf_docs.specs.Names.{name_faults, name_for}
use Rattle.build_base.specs.FaultCodes.{BAD_TYPE, INF_BAD_GUID}

-- the keys that are read; of the first four the last line holds, the others may repeat
abbrev pub keys : List (List ℕ × ModuleKey)
keys =
    (codes "BASE_NAME", BaseName) ∷ (codes "FILE_GUID", FileGuid) ∷
    (codes "MODULE_TYPE", Kind) ∷ (codes "VERSION_STRING", Version) ∷
    (codes "ENTRY_POINT", EntryPoint) ∷ (codes "CONSTRUCTOR", Constructor) ∷
    (codes "DESTRUCTOR", Destructor) ∷ (codes "LIBRARY_CLASS", LibraryClass) ∷ []

unfoldable pub key_named : List ℕ → Option ModuleKey
key_named word = lookup keys word

-- a GUID in registry form
abbrev pub guid_faults : Taken → List ℕ → List (Option Fault)
guid_faults line value =
    undefined_macro line.at value ∷ require (guid_of value) (fault_of INF_BAD_GUID line.at value)
    ∷ []

-- a type of modules
abbrev pub type_faults : Taken → List ℕ → List (Option Fault)
type_faults line value =
    undefined_macro line.at value ∷
    require (module_type_named value) (fault_of BAD_TYPE line.at value) ∷ []

-- the faults of a key's value
unfoldable pub value_faults : Taken → ModuleKey → List ℕ → List (Option Fault)
value_faults line BaseName value = name_faults line.at value
value_faults line FileGuid value = guid_faults line value
value_faults line Kind value = type_faults line value
value_faults line Version value = undefined_macro line.at value ∷ []
value_faults line EntryPoint value = name_faults line.at value
value_faults line Constructor value = name_faults line.at value
value_faults line Destructor value = name_faults line.at value
value_faults line LibraryClass value = class_faults line (field_texts value)

unfoldable pub value_row : Taken → ModuleKey → List ℕ → Option Row
value_row line BaseName value = Some (row.BaseName value)
value_row line FileGuid value = option_map row.FileGuid (guid_of value)
value_row line Kind value = option_map row.Kind (module_type_named value)
value_row line Version value = Some (row.Version value)
value_row line EntryPoint value = Some (row.EntryPoint (name_for line.at Common value))
value_row line Constructor value = Some (row.Constructor (name_for line.at Common value))
value_row line Destructor value = Some (row.Destructor (name_for line.at Common value))
value_row line LibraryClass value = option_map row.Serves (class_served (field_texts value))

-- a line of another key is read past
abbrev pub key_faults : Taken → Option ModuleKey → List ℕ → List (Option Fault)
key_faults line (Some key) value = of_read_line line (value_faults line key value)
key_faults line None value = []

abbrev pub key_row : Taken → Option ModuleKey → List ℕ → Option Row
key_row line (Some key) value = value_row line key value
key_row line None value = None

-- `KEY = VALUE`; a line without `=` is read past
abbrev pub pair_faults : Taken → Option (List ℕ × List ℕ) → List (Option Fault)
pair_faults line (Some pair) = key_faults line (key_named pair.0) pair.1
pair_faults line None = []

abbrev pub pair_row : Taken → Option (List ℕ × List ℕ) → Option Row
pair_row line (Some pair) = key_row line (key_named pair.0) pair.1
pair_row line None = None

unfoldable pub key_line_faults : Taken → List (Option Fault)
key_line_faults line = pair_faults line (split_once 61 line.text)

unfoldable pub key_line_row : Taken → Option Row
key_line_row line = pair_row line (split_once 61 line.text)
