-- Lines of which no condition holds give rows.
use Rattle.std.proofs.Common.{◌≡◌, ℕ, Bool, true, false, if◌then◌else◌, List, [], ◌∷◌, Option, Some, None, option_map, refl}
use Rattle.std.specs.Option.{IsSome}
use Rattle.build_base.specs.Guid.{guid_of}
use Rattle.build_base.specs.FaultText.{fault_of}
use Rattle.build_base.specs.declared.fault.Fault.{Fault}
use Rattle.build_base.specs.declared.lines.Taken.{Taken}
use Rattle.doc_reading.specs.Least.{least_of}
use Rattle.doc_reading.specs.ValueFields.{undefined_macro}
use Rattle.doc_reading.specs.Values.{require}
use Rattle.doc_reading.proofs.FaultlessLemmas.{least_first, least_rest, least_read, wanted_given}
use Rattle.doc_types.specs.ModuleTypes.{module_type_named}
use Rattle.doc_types.specs.Pcds.{pcd_name_of}
use Rattle.doc_types.specs.declared.pcd.PcdName.{PcdName}
use Rattle.meta_lexer.specs.Faults.{first_fault}
use Rattle.meta_lexer.specs.Parts.{first_text, field_texts}
use Rattle.inf_docs.specs.declared.key.ModuleKey.{ModuleKey}
use Rattle.inf_docs.specs.declared.key.ModuleKey.TheVariants as key
use Rattle.inf_docs.specs.declared.section.Scope.{Scope}
use Rattle.inf_docs.specs.declared.section.SectionKind.{SectionKind}
use Rattle.inf_docs.specs.declared.section.SectionKind.TheVariants.{Defines, Packages, Classes, GuidNames, Pcds, Depex}
use Rattle.inf_docs.specs.Classes.{bad_class, class_form, class_faults, class_served}
use Rattle.inf_docs.specs.Keys.{value_faults, value_row}
use Rattle.inf_docs.specs.Names.{path_of, first_field, package_faults, package_row}
use Rattle.inf_docs.specs.Pcds.{is_pcd_form, pcd_fault, pcd_faults, pcd_used}
use Rattle.inf_docs.specs.Rows.{faults_in, row_in, line_faults, line_row, Lists}
use Rattle.build_base.specs.FaultCodes.{BAD_TYPE, INF_BAD_GUID}

mapped : {A B : Type 0} (f : A → B) (o : Option A) → IsSome o → IsSome (option_map f o)
mapped f (Some x) h = refl
mapped f None h = absurd cc

in_form : (t : Bool) (pcd : Option PcdName) (one other : Fault) → (if t then require pcd one else Some other) ≡ None → IsSome pcd
in_form true pcd one other e = wanted_given pcd one e
in_form false pcd one other e = absurd cc

package_given : (line : Taken) (arch : _) → least_of (package_faults line) ≡ None → IsSome (package_row line arch)
unfolding package_faults package_row
package_given line arch e =
    let path = path_of (first_field line) in
    mapped _ path (wanted_given path _ (least_first _ [] (least_read line _ e)))

pcd_given : (line : Taken) (arch : _) (asked : _) → least_of (pcd_faults line) ≡ None → IsSome (pcd_used line arch asked)
unfolding pcd_faults pcd_used
pcd_given line arch asked e =
    let fields = field_texts line.text in
    let rest = least_rest (first_fault (undefined_macro line.at) fields) (pcd_fault line fields ∷ []) (least_read line _ e) in
    mapped _ (pcd_name_of (first_text fields)) (in_form (is_pcd_form fields) (pcd_name_of (first_text fields)) _ _ (least_first (pcd_fault line fields) [] rest))

given_by : (line : Taken) (arch : _) (kind : SectionKind) → Lists kind → least_of (faults_in line kind) ≡ None → IsSome (row_in line arch kind)
given_by line arch Packages l e = package_given line arch e
given_by line arch Classes l e = refl
given_by line arch GuidNames l e = refl
given_by line arch (Pcds asked) l e = mapped _ (pcd_used line arch asked) (pcd_given line arch asked e)
given_by line arch Depex l e = refl
given_by line arch Defines l e = absurd l

pub listed_given : (line : Taken) (scope : Scope) → Lists scope.kind → least_of (line_faults line scope) ≡ None → IsSome (line_row line scope)
unfolding line_faults line_row
listed_given line scope l e = given_by line scope.arch scope.kind l e

form_given : (line : Taken) (fields : List (List ℕ)) → least_of (class_form line fields) ≡ None → IsSome (class_served fields)
unfolding class_served
form_given line [] e = absurd cc
form_given line (name ∷ []) e = refl
form_given line (name ∷ types ∷ []) e = refl
form_given line (name ∷ types ∷ third ∷ more) e = absurd cc

class_given : (line : Taken) (fields : List (List ℕ)) → least_of (class_faults line fields) ≡ None → IsSome (class_served fields)
unfolding class_faults
class_given line fields e = form_given line fields (least_rest (first_fault (undefined_macro line.at) fields) (class_form line fields) e)

pub value_given : (line : Taken) (k : ModuleKey) (value : List ℕ) → least_of (value_faults line k value) ≡ None → IsSome (value_row line k value)
unfolding value_faults value_row
value_given line key.BaseName value e = refl
value_given line key.FileGuid value e = mapped _ (guid_of value) (wanted_given (guid_of value) (fault_of INF_BAD_GUID line.at value) (least_first _ [] (least_rest (undefined_macro line.at value) (require (guid_of value) (fault_of INF_BAD_GUID line.at value) ∷ []) e)))
value_given line key.Kind value e = mapped _ (module_type_named value) (wanted_given (module_type_named value) (fault_of BAD_TYPE line.at value) (least_first _ [] (least_rest (undefined_macro line.at value) (require (module_type_named value) (fault_of BAD_TYPE line.at value) ∷ []) e)))
value_given line key.Version value e = refl
value_given line key.EntryPoint value e = refl
value_given line key.Constructor value e = refl
value_given line key.Destructor value e = refl
value_given line key.LibraryClass value e = mapped _ (class_served (field_texts value)) (class_given line (field_texts value) e)
