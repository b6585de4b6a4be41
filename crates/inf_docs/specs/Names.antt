-- Lines of names and of paths (EDK II INF specification, [LibraryClasses], [Guids], [Protocols],
-- [Ppis] and [Packages] sections).
use Rattle.std.specs.Prelude.{ℕ, if◌then◌else◌, List, [], ◌∷◌, Option, Some, None}
use Rattle.std.specs.Option.{option_map}
use Rattle.build_base.specs.FaultText.{fault_of}
use Rattle.build_base.specs.Path.{path_field}
use Rattle.build_base.specs.declared.fault.Fault.{Fault}
use Rattle.build_base.specs.declared.fault.Place.{Place}
use Rattle.build_base.specs.declared.lines.Taken.{Taken}
use Rattle.doc_reading.specs.ValueFields.{undefined_macro}
use Rattle.doc_reading.specs.Values.{require, of_read_line}
use Rattle.doc_types.specs.declared.arch.Arch.{Arch}
use Rattle.doc_types.specs.declared.module.Named.{Named}
use Rattle.macro_expressions.specs.Macros.{without_workspace}
use Rattle.meta_lexer.specs.Parts.{first_text, field_texts}
use Rattle.meta_lexer.specs.Words.{is_identifier}
use Rattle.inf_docs.specs.declared.row.Row.{Row}
use Rattle.inf_docs.specs.declared.row.Row.TheVariants.{Package}
use Rattle.build_base.specs.FaultCodes.{BAD_NAME, BAD_PATH}

-- an identifier
abbrev pub name_fault : Place → List ℕ → Option Fault
name_fault at text = if is_identifier text then None else Some (fault_of BAD_NAME at text)

abbrev pub name_faults : Place → List ℕ → List (Option Fault)
name_faults at text = undefined_macro at text ∷ name_fault at text ∷ []

-- for an architecture
abbrev pub name_for : Place → Arch → List ℕ → Named
name_for at arch name = record { at = at; arch = arch; name = name }

-- the fields behind the first are read past
abbrev pub first_field : Taken → List ℕ
first_field line = first_text (field_texts line.text)

unfoldable pub name_line_faults : Taken → List (Option Fault)
name_line_faults line = of_read_line line (name_faults line.at (first_field line))

unfoldable pub name_line : Taken → Arch → Named
name_line line arch = name_for line.at arch (first_field line)

-- the path of a package
abbrev pub path_of : List ℕ → Option (List ℕ)
path_of field = path_field (without_workspace field)

unfoldable pub package_faults : Taken → List (Option Fault)
package_faults line =
    of_read_line line
    (require (path_of (first_field line)) (fault_of BAD_PATH line.at (first_field line)) ∷ [])

unfoldable pub package_row : Taken → Arch → Option Row
package_row line arch =
    option_map (λ path. Package (name_for line.at arch path)) (path_of (first_field line))
