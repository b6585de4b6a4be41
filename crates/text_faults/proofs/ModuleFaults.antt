-- The fault of a module's document has a name.
use Rattle.std.proofs.Common.{ℕ, ◌==◌, List, [], ◌∷◌, length, Option, Some, None}
use Rattle.build_base.specs.FaultText.{fault_of}
use Rattle.build_base.specs.FaultCodes.{BAD_NAME, BAD_PATH, BAD_PCD_NAME, BAD_TYPE, INF_BAD_GUID, INF_UNKNOWN_SECTION}
use Rattle.build_base.specs.Guid.{guid_of}
use Rattle.build_base.specs.declared.fault.Place.{Place}
use Rattle.build_base.specs.declared.guid.Guid.{Guid as GuidBytes}
use Rattle.build_base.specs.declared.lines.Lines.{Lines}
use Rattle.build_base.specs.declared.lines.Taken.{Taken}
use Rattle.meta_lexer.specs.Parts.{first_text, field_texts, words_of}
use Rattle.meta_lexer.specs.Words.{split_once, is_identifier}
use Rattle.doc_reading.specs.Grammar.{Read, read_of}
use Rattle.doc_reading.specs.ValueFields.{undefined_macro}
use Rattle.doc_reading.specs.Values.{require}
use Rattle.doc_types.specs.ModuleTypes.{module_type_named}
use Rattle.doc_types.specs.Pcds.{pcd_name_of}
use Rattle.doc_types.specs.declared.depex.DepexPart.{DepexPart}
use Rattle.doc_types.specs.declared.module_type.ModuleType.{ModuleType}
use Rattle.inf_docs.specs.declared.row.Row.{Row}
use Rattle.inf_docs.specs.declared.section.Scope.{Scope}
use Rattle.inf_docs.specs.declared.section.SectionKind.{SectionKind}
use Rattle.inf_docs.specs.declared.section.SectionKind.TheVariants.{Defines, Packages, Classes, GuidNames, Pcds, Depex}
use Rattle.inf_docs.specs.declared.tables.ModuleTables.{ModuleTables}
use Rattle.inf_docs.specs.Classes.{bad_class, type_fault, class_name_fault, served_fault, class_form, class_faults}
use Rattle.inf_docs.specs.Depex.{terms_faults}
use Rattle.inf_docs.specs.Keys.{keys, key_named, guid_faults, type_faults, value_faults, key_faults, pair_faults, key_line_faults}
use Rattle.inf_docs.specs.Modules.{inf_grammar, required, document_of, module_made, module_of}
use Rattle.inf_docs.specs.Names.{name_fault, name_faults, first_field, name_line_faults, path_of, package_faults}
use Rattle.inf_docs.specs.Pcds.{is_pcd_form, pcd_fault, asked_faults, pcd_faults}
use Rattle.inf_docs.specs.Rows.{faults_in, line_faults}
use Rattle.inf_docs.specs.Sections.{head_meaning}
use Rattle.named_faults.specs.Named.{IsNamed, FailsByName}
use Rattle.named_faults.proofs.NamedLemmas.{if_named, AreNamed}
use Rattle.named_faults.proofs.CodeLemmas.{bad_class_line_named, bad_name_named, bad_path_named, bad_pcd_name_named, bad_type_named, inf_bad_guid_named, inf_missing_key_named, inf_unknown_section_named}
use Rattle.text_faults.proofs.GrammarLemmas.{IsNamedGrammar, whole_fails}
use Rattle.text_faults.proofs.PartLemmas.{lookup_holds, first_fault_named}
use Rattle.text_faults.proofs.ValueLemmas.{require_named, read_line_named, macros_named, meaning_named}

-- Names and paths.

name_named : (at : Place) (text : List ℕ) → IsNamed (name_fault at text)
name_named at text = if_named (is_identifier text) None (Some (fault_of BAD_NAME at text)) tt bad_name_named

names_named : (at : Place) (text : List ℕ) → AreNamed (name_faults at text)
names_named at text = (macros_named at text, (name_named at text, tt))

name_lines_named : (line : Taken) → AreNamed (name_line_faults line)
unfolding name_line_faults
name_lines_named line = read_line_named line (name_faults line.at (first_field line)) (names_named line.at (first_field line))

package_lines_named : (line : Taken) → AreNamed (package_faults line)
unfolding package_faults
package_lines_named line =
    let fault = fault_of BAD_PATH line.at (first_field line) in
    read_line_named line (require (path_of (first_field line)) fault ∷ []) (require_named (path_of (first_field line)) fault bad_path_named, tt)

-- The class that a module serves.

type_named : (at : Place) (word : List ℕ) → IsNamed (type_fault at word)
type_named at word = require_named (module_type_named word) (fault_of BAD_TYPE at word) bad_type_named

class_name_named : (line : Taken) (name : List ℕ) → IsNamed (class_name_fault line name)
class_name_named line name = if_named (is_identifier name) None (Some (bad_class line)) tt bad_class_line_named

served_named : (line : Taken) (name : List ℕ) (words : List (List ℕ)) → IsNamed (served_fault line name words)
served_named line name words = if_named (length words == 0) (Some (bad_class line)) (class_name_fault line name) bad_class_line_named (class_name_named line name)

class_form_named : (line : Taken) (fields : List (List ℕ)) → AreNamed (class_form line fields)
class_form_named line [] = (bad_class_line_named, tt)
class_form_named line (name ∷ []) = (class_name_named line name, tt)
class_form_named line (name ∷ types ∷ []) = (first_fault_named (type_fault line.at) (words_of types) (type_named line.at), (served_named line name (words_of types), tt))
class_form_named line (name ∷ types ∷ other ∷ fields) = (bad_class_line_named, tt)

classes_named : (line : Taken) (fields : List (List ℕ)) → AreNamed (class_faults line fields)
unfolding class_faults
classes_named line fields = (first_fault_named (undefined_macro line.at) fields (macros_named line.at), class_form_named line fields)

-- The lines of [Defines].

guids_named : (line : Taken) (value : List ℕ) → AreNamed (guid_faults line value)
guids_named line value = (macros_named line.at value, (require_named (guid_of value) (fault_of INF_BAD_GUID line.at value) inf_bad_guid_named, tt))

types_named : (line : Taken) (value : List ℕ) → AreNamed (type_faults line value)
types_named line value = (macros_named line.at value, (type_named line.at value, tt))

keys_named : (line : Taken) (word value : List ℕ) → AreNamed (key_faults line (key_named word) value)
unfolding key_named value_faults
keys_named line word value =
    let name = read_line_named line (name_faults line.at value) (names_named line.at value) in
    let guid = read_line_named line (guid_faults line value) (guids_named line value) in
    let kind = read_line_named line (type_faults line value) (types_named line value) in
    let version = read_line_named line (undefined_macro line.at value ∷ []) (macros_named line.at value, tt) in
    let served = read_line_named line (class_faults line (field_texts value)) (classes_named line (field_texts value)) in
    lookup_holds (λ found. AreNamed (key_faults line found value)) keys word (name, (guid, (kind, (version, (name, (name, (name, (served, tt)))))))) tt

pairs_named : (line : Taken) (pair : Option (List ℕ × List ℕ)) → AreNamed (pair_faults line pair)
pairs_named line (Some pair) = keys_named line pair.0 pair.1
pairs_named line None = tt

key_lines_named : (line : Taken) → AreNamed (key_line_faults line)
unfolding key_line_faults
key_lines_named line = pairs_named line (split_once 61 line.text)

-- PCDs and terms.

pcd_named : (line : Taken) (fields : List (List ℕ)) → IsNamed (pcd_fault line fields)
pcd_named line fields =
    let fault = fault_of BAD_PCD_NAME line.at (first_text fields) in
    if_named (is_pcd_form fields) (require (pcd_name_of (first_text fields)) fault) (Some fault) (require_named (pcd_name_of (first_text fields)) fault bad_pcd_name_named) bad_pcd_name_named

pcd_lines_named : (line : Taken) → AreNamed (pcd_faults line)
unfolding pcd_faults
pcd_lines_named line =
    let fields = field_texts line.text in
    read_line_named line (asked_faults line fields) (first_fault_named (undefined_macro line.at) fields (macros_named line.at), (pcd_named line fields, tt))

terms_named : (line : Taken) → AreNamed (terms_faults line)
unfolding terms_faults
terms_named line = read_line_named line (undefined_macro line.at line.text ∷ []) (macros_named line.at line.text, tt)

-- The document.

section_named : (line : Taken) (kind : SectionKind) → AreNamed (faults_in line kind)
section_named line Defines = key_lines_named line
section_named line Packages = package_lines_named line
section_named line Classes = name_lines_named line
section_named line GuidNames = name_lines_named line
section_named line (Pcds asked) = pcd_lines_named line
section_named line Depex = terms_named line

lines_below_named : (line : Taken) (scope : Scope) → AreNamed (line_faults line scope)
unfolding line_faults
lines_below_named line scope = section_named line scope.kind

grammar_named : IsNamedGrammar inf_grammar
grammar_named = record {
  heads = λ line head. meaning_named INF_UNKNOWN_SECTION line head (head_meaning head) inf_unknown_section_named;
  stray = inf_unknown_section_named;
  rows = λ above line scope. lines_below_named line scope;
  at_heads = λ above line heads. tt;
  left_open = λ above line. tt;
}

required_fails : (root : List ℕ) (tables : ModuleTables) (parts : List DepexPart) (name : Option (List ℕ)) (guid : Option GuidBytes) (kind : Option ModuleType)
    → FailsByName (required root tables parts name guid kind)
required_fails root tables parts None guid kind = inf_missing_key_named
required_fails root tables parts (Some name) None kind = inf_missing_key_named
required_fails root tables parts (Some name) (Some guid) None = inf_missing_key_named
required_fails root tables parts (Some name) (Some guid) (Some kind) = tt

document_fails : (root : List ℕ) (tables : ModuleTables) (parts : List DepexPart) → FailsByName (document_of root tables parts)
unfolding document_of
document_fails root tables parts = required_fails root tables parts tables.base_name tables.file_guid tables.kind

made_fails : (lines : Lines) (reads : List (Read Scope Row)) → FailsByName (module_made lines reads)
unfolding module_made
made_fails lines reads = document_fails lines.root _ _

-- what the lines of a module make fails by a name
pub module_fails : (lines : Lines) → FailsByName (module_of lines)
unfolding module_of
module_fails lines = whole_fails inf_grammar grammar_named (module_made lines) lines.rows (λ e. made_fails lines (read_of inf_grammar lines.rows))
