-- The library class that a module serves: `Name` or `Name|TYPE TYPE` (EDK II INF specification,
-- LIBRARY_CLASS).
use Rattle.std.specs.Prelude.{ℕ, ◌==◌, if◌then◌else◌, List, [], ◌∷◌, length, Option, Some, None}
use Rattle.std.specs.List.{flat_map}
use Rattle.build_base.specs.FaultText.{fault_of}
use Rattle.build_base.specs.declared.fault.Fault.{Fault}
use Rattle.build_base.specs.declared.fault.Place.{Place}
use Rattle.build_base.specs.declared.lines.Taken.{Taken}
use Rattle.doc_reading.specs.ValueFields.{undefined_macro}
use Rattle.doc_reading.specs.Values.{require}
use Rattle.doc_types.specs.ModuleTypes.{module_type_named}
use Rattle.doc_types.specs.declared.module.Served.{Served}
use Rattle.doc_types.specs.declared.module_type.ModuleType.{ModuleType}
use Rattle.meta_lexer.specs.Faults.{first_fault}
use Rattle.meta_lexer.specs.Parts.{words_of}
use Rattle.meta_lexer.specs.Words.{is_identifier}
use Rattle.build_base.specs.FaultCodes.{BAD_CLASS_LINE, BAD_TYPE}

abbrev pub bad_class : Taken → Fault
bad_class line = fault_of BAD_CLASS_LINE line.at line.text

-- a word that is no type of modules
abbrev pub type_fault : Place → List ℕ → Option Fault
type_fault at word = require (module_type_named word) (fault_of BAD_TYPE at word)

abbrev pub class_name_fault : Taken → List ℕ → Option Fault
class_name_fault line name = if is_identifier name then None else Some (bad_class line)

-- a class for some types, at least one
abbrev pub served_fault : Taken → List ℕ → List (List ℕ) → Option Fault
served_fault line name words = if length words == 0 then Some (bad_class line)
    else class_name_fault line name

-- one field or two
abbrev pub class_form : Taken → List (List ℕ) → List (Option Fault)
class_form line (name ∷ []) = class_name_fault line name ∷ []
class_form line (name ∷ types ∷ []) =
    first_fault (type_fault line.at) (words_of types) ∷ served_fault line name (words_of types) ∷ []
class_form line fields = Some (bad_class line) ∷ []

unfoldable pub class_faults : Taken → List (List ℕ) → List (Option Fault)
class_faults line fields = first_fault (undefined_macro line.at) fields ∷ class_form line fields

abbrev pub type_given : Option ModuleType → List ModuleType
type_given (Some found) = found ∷ []
type_given None = []

abbrev pub types_named : List (List ℕ) → List ModuleType
types_named words = flat_map (λ word. type_given (module_type_named word)) words

-- without types it is for modules of every type
unfoldable pub class_served : List (List ℕ) → Option Served
class_served (name ∷ []) = Some (record { name = name; types = [] })
class_served (name ∷ types ∷ []) =
    Some (record { name = name; types = types_named (words_of types) })
class_served fields = None
