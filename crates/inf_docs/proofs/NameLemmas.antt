-- A line that gives a module its name gives an identifier.
use Rattle.std.specs.List.{AllByRecursion}
use Rattle.std.specs.Option.{IfSome, option_map}
use Rattle.std.proofs.Common.{◌≡◌, ℕ, Bool, true, false, if◌then◌else◌, List, [], ◌∷◌, Option, Some, None, refl}
use Rattle.build_base.specs.FaultCodes.{BAD_NAME}
use Rattle.build_base.specs.FaultText.{fault_of}
use Rattle.build_base.specs.Guid.{guid_of}
use Rattle.build_base.specs.declared.fault.Fault.{Fault}
use Rattle.build_base.specs.declared.lines.Taken.{Taken}
use Rattle.doc_reading.specs.Least.{least_of}
use Rattle.doc_reading.specs.ValueFields.{undefined_macro}
use Rattle.doc_reading.proofs.FaultlessLemmas.{least_first, least_rest, least_read}
use Rattle.doc_types.specs.ModuleTypes.{module_type_named}
use Rattle.doc_types.specs.declared.arch.Arch.{Arch}
use Rattle.meta_lexer.specs.Parts.{field_texts}
use Rattle.meta_lexer.specs.Words.{is_identifier, split_once}
use Rattle.inf_docs.specs.Classes.{class_served}
use Rattle.inf_docs.specs.Keys.{key_named, value_faults, value_row, key_faults, key_row, pair_faults, pair_row, key_line_faults, key_line_row}
use Rattle.inf_docs.specs.Modules.{base_name_in}
use Rattle.inf_docs.specs.Names.{name_fault, name_for, path_of, first_field, package_row}
use Rattle.inf_docs.specs.Pcds.{pcd_used}
use Rattle.inf_docs.specs.Rows.{faults_in, row_in, line_faults, line_row}
use Rattle.inf_docs.specs.declared.key.ModuleKey.{ModuleKey}
use Rattle.inf_docs.specs.declared.key.ModuleKey.TheVariants as key
use Rattle.inf_docs.specs.declared.row.Row.{Row}
use Rattle.inf_docs.specs.declared.row.Row.TheVariants as row
use Rattle.inf_docs.specs.declared.section.Scope.{Scope}
use Rattle.inf_docs.specs.declared.section.SectionKind.{SectionKind}
use Rattle.inf_docs.specs.declared.section.SectionKind.TheVariants.{Defines, Packages, Classes, GuidNames, Pcds, Depex}

-- the name that a row gives, where it gives one, is an identifier
abbrev pub NameFits : Row → Type 0
NameFits r = AllByRecursion (λ name. is_identifier name ≡ true) (base_name_in r)

where_none : (t : Bool) (fault : Fault) → (if t then None else Some fault) ≡ None → t ≡ true
where_none true fault e = refl
where_none false fault e = absurd cc

mapped : {A : Type 0} (make : A → Row) (found : Option A) → ((x : A) → NameFits (make x)) → IfSome (option_map make found) NameFits
mapped make None n = tt
mapped make (Some x) n = n x

value_fits : (line : Taken) (k : ModuleKey) (value : List ℕ) → least_of (value_faults line k value) ≡ None → IfSome (value_row line k value) NameFits
unfolding value_faults value_row
value_fits line key.BaseName value e = (
  where_none (is_identifier value) (fault_of BAD_NAME line.at value)
      (least_first (name_fault line.at value) [] (least_rest (undefined_macro line.at value) (name_fault line.at value ∷ []) e)),
  tt,
)
value_fits line key.FileGuid value e = mapped row.FileGuid (guid_of value) (λ guid. tt)
value_fits line key.Kind value e = mapped row.Kind (module_type_named value) (λ kind. tt)
value_fits line key.Version value e = tt
value_fits line key.EntryPoint value e = tt
value_fits line key.Constructor value e = tt
value_fits line key.Destructor value e = tt
value_fits line key.LibraryClass value e = mapped row.Serves (class_served (field_texts value)) (λ served. tt)

key_fits : (line : Taken) (k : Option ModuleKey) (value : List ℕ) → least_of (key_faults line k value) ≡ None → IfSome (key_row line k value) NameFits
key_fits line (Some k) value e = value_fits line k value (least_read line (value_faults line k value) e)
key_fits line None value e = tt

pair_fits : (line : Taken) (pair : Option (List ℕ × List ℕ)) → least_of (pair_faults line pair) ≡ None → IfSome (pair_row line pair) NameFits
pair_fits line (Some pair) e = key_fits line (key_named pair.0) pair.1 e
pair_fits line None e = tt

key_line_fits : (line : Taken) → least_of (key_line_faults line) ≡ None → IfSome (key_line_row line) NameFits
unfolding key_line_faults key_line_row
key_line_fits line e = pair_fits line (split_once 61 line.text) e

package_fits : (line : Taken) (arch : Arch) → IfSome (package_row line arch) NameFits
unfolding package_row
package_fits line arch = mapped (λ path. row.Package (name_for line.at arch path)) (path_of (first_field line)) (λ path. tt)

section_fits : (line : Taken) (arch : Arch) (kind : SectionKind) → least_of (faults_in line kind) ≡ None → IfSome (row_in line arch kind) NameFits
section_fits line arch Defines e = key_line_fits line e
section_fits line arch Packages e = package_fits line arch
section_fits line arch Classes e = tt
section_fits line arch GuidNames e = tt
section_fits line arch (Pcds asked) e = mapped row.Pcd (pcd_used line arch asked) (λ pcd. tt)
section_fits line arch Depex e = tt

pub name_fits : (line : Taken) (scope : Scope) → least_of (line_faults line scope) ≡ None → IfSome (line_row line scope) NameFits
unfolding line_faults line_row
name_fits line scope e = section_fits line scope.arch scope.kind e
