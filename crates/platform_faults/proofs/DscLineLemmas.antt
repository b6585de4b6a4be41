-- The faults of the lines and heads of a platform have names.
use Rattle.std.proofs.Common.{ℕ, ◌==◌, ◌&&◌, not, Bool, nat_lt, List, [], ◌∷◌, length, map, Option, Some, None, Result, Ok, Err}
use Rattle.std.specs.Option.{IfSome}
use Rattle.build_base.specs.FaultText.{fault_of}
use Rattle.build_base.specs.First.{all_ok}
use Rattle.build_base.specs.Guid.{guid_of}
use Rattle.build_base.specs.Path.{path_field}
use Rattle.build_base.specs.declared.fault.Fault.{Fault}
use Rattle.build_base.specs.declared.fault.Place.{Place}
use Rattle.build_base.specs.declared.lines.Taken.{Taken}
use Rattle.macro_expressions.specs.Macros.{without_workspace}
use Rattle.meta_lexer.specs.Faults.{first_fault}
use Rattle.meta_lexer.specs.Parts.{first_text, field_texts}
use Rattle.meta_lexer.specs.Words.{is_identifier, split_once}
use Rattle.meta_lexer.specs.declared.head.Head.{Head}
use Rattle.doc_reading.specs.SegmentNames.{segment_name}
use Rattle.doc_reading.specs.ValueFields.{undefined_macro, number_value, text_value, path_value}
use Rattle.doc_types.specs.Arches.{arch_named}
use Rattle.doc_types.specs.Pcds.{pcd_name_of}
use Rattle.doc_types.specs.declared.arch.Arch.{Arch}
use Rattle.doc_types.specs.declared.module_type.ModuleType.{ModuleType}
use Rattle.doc_types.specs.declared.pcd.PcdName.{PcdName}
use Rattle.dsc_lines.specs.Arches.{is_common, arch_found, arch_value, arches_value}
use Rattle.dsc_lines.specs.ComponentLines as component
use Rattle.dsc_lines.specs.Forms.{formless}
use Rattle.dsc_lines.specs.KeyLines as key
use Rattle.dsc_lines.specs.LibraryLines as library
use Rattle.dsc_lines.specs.Lines.{scope_faults, line_faults}
use Rattle.dsc_lines.specs.PcdLines as pcd
use Rattle.dsc_lines.specs.Sections as head
use Rattle.dsc_lines.specs.SkuLines as sku
use Rattle.dsc_lines.specs.declared.component_line.Form.{Form}
use Rattle.dsc_lines.specs.declared.component_line.Form.TheVariants as form
use Rattle.dsc_lines.specs.declared.open_mark.Open.{Open}
use Rattle.dsc_lines.specs.declared.open_mark.Open.TheVariants as state
use Rattle.dsc_lines.specs.declared.rows.Tag.{Tag}
use Rattle.dsc_lines.specs.declared.rows.Tag.TheVariants as tag_
use Rattle.dsc_lines.specs.declared.section.Scope.{Scope}
use Rattle.dsc_lines.specs.declared.section.Scope.TheVariants as scope
use Rattle.dsc_lines.specs.declared.section.Section.{Section}
use Rattle.dsc_lines.specs.declared.section.Section.TheVariants as section
use Rattle.dsc_lines.specs.declared.section.StoreKind.{StoreKind}
use Rattle.build_base.specs.FaultCodes.{BAD_ARCH, BAD_COMPONENT, BAD_LIBRARY_LINE, BAD_NUMBER, BAD_PATH, BAD_SECTION, BAD_SKU_LINE, DSC_BAD_GUID, DSC_BAD_PCD_LINE}
use Rattle.named_faults.specs.Named.{IsNameCode, IsNamed, FailsByName}
use Rattle.named_faults.proofs.NamedLemmas.{AreNamed, if_named, if_fails, or_fault_fails, all_fails, mapped_fails, if_holds}
use Rattle.named_faults.proofs.CodeLemmas.{bad_arch_named, bad_component_named, bad_library_line_named, bad_number_named, bad_path_named, bad_section_named, bad_sku_line_named, dsc_bad_guid_named, dsc_bad_pcd_line_named, dsc_unknown_section_named}
use Rattle.doc_reading.specs.Values.{require, of_read_line}
use Rattle.text_faults.proofs.GrammarLemmas.{fault_in_named}
use Rattle.text_faults.proofs.PartLemmas.{lookup_holds, first_fault_named}
use Rattle.text_faults.proofs.ValueLemmas.{require_named, read_line_named, macros_named, text_value_fails, number_value_fails, path_value_fails, segment_name_fails}

-- lines of no form
formless_named : (code : ℕ) → IsNameCode code → (line : Taken) (fields : List (List ℕ)) → AreNamed (formless code line fields)
formless_named code h line fields = (first_fault_named (undefined_macro line.at) fields (macros_named line.at), (h, tt))

-- [Defines]
arch_fails : (at : Place) (word : List ℕ) (arch : Option Arch) → FailsByName (arch_found at word arch)
arch_fails at word (Some arch) = if_fails (is_common arch) (Err (fault_of BAD_ARCH at word)) (Ok arch) bad_arch_named tt
arch_fails at word None = bad_arch_named

arches_fail : (at : Place) (text : List ℕ) → FailsByName (arches_value at text)
unfolding arches_value arch_value
arches_fail at text =
    or_fault_fails (first_fault (undefined_macro at) (field_texts text)) (all_ok (map (arch_value at) (field_texts text)))
    (first_fault_named (undefined_macro at) (field_texts text) (macros_named at))
    (λ e. all_fails (map (arch_value at) (field_texts text)) (mapped_fails (arch_value at) (field_texts text) (λ word. arch_fails at word (arch_named word))))

key_named : (line : Taken) (value word : List ℕ) → IfSome (key.key_named word) (λ k. AreNamed (key.key_faults line k value))
unfolding key.key_named
key_named line value word =
    lookup_holds (λ o. IfSome o (λ k. AreNamed (key.key_faults line k value))) key.keys word (
      (fault_in_named (segment_name line.at value) (segment_name_fails line.at value), tt),
      (
        (macros_named line.at value, (require_named (guid_of value) (fault_of DSC_BAD_GUID line.at value) dsc_bad_guid_named, tt)),
        (
          (fault_in_named (arches_value line.at value) (arches_fail line.at value), tt),
          (
            (require_named (path_field (without_workspace value)) (fault_of BAD_PATH line.at value) bad_path_named, tt),
            ((fault_in_named (text_value line.at value) (text_value_fails line.at value), tt), ((fault_in_named (path_value line.at value) (path_value_fails line.at value), tt), tt)),
          ),
        ),
      ),
    ) tt

key_halves_named : (line : Taken) (o : Option (List ℕ × List ℕ)) → AreNamed (key.halves_faults line o)
key_halves_named line (Some p) =
    elim (key.key_named p.0) as (λ o. IfSome o (λ k. AreNamed (key.key_faults line k p.1)) → AreNamed (key.pair_faults line o p.1)) [
      | Some k ↦ λ h. read_line_named line (key.key_faults line k p.1) h
      | None ↦ λ h. tt
    ] (key_named line p.1 p.0)
key_halves_named line None = tt

keys_named : (line : Taken) → AreNamed (key.key_line_faults line)
unfolding key.key_line_faults
keys_named line = key_halves_named line (split_once 61 line.text)

-- libraries
library_fields_named : (line : Taken) (fields : List (List ℕ)) → AreNamed (library.fields_faults line fields)
library_fields_named line [] = formless_named BAD_LIBRARY_LINE bad_library_line_named line []
library_fields_named line (class ∷ []) = formless_named BAD_LIBRARY_LINE bad_library_line_named line (class ∷ [])
library_fields_named line (class ∷ path ∷ []) = (
  if_named (is_identifier class) None (Some (fault_of BAD_LIBRARY_LINE line.at line.text)) tt bad_library_line_named,
  (macros_named line.at class, (require_named (path_field (without_workspace path)) (fault_of BAD_PATH line.at path) bad_path_named, tt)),
)
library_fields_named line (class ∷ path ∷ more ∷ fields) = formless_named BAD_LIBRARY_LINE bad_library_line_named line (class ∷ path ∷ more ∷ fields)

library_named : (line : Taken) → AreNamed (library.library_faults line)
unfolding library.library_faults
library_named line = read_line_named line (library.fields_faults line (field_texts line.text)) (library_fields_named line (field_texts line.text))

-- PCDs
pcd_number_named : (line : Taken) (o : Option (List ℕ)) → IsNamed (pcd.number_fault line o)
pcd_number_named line (Some text) = require_named (pcd.small_of text) (fault_of BAD_NUMBER line.at text) bad_number_named
pcd_number_named line None = tt

pcd_form_named : (line : Taken) (kind : StoreKind) (o : Option PcdName) (fields : List (List ℕ)) → IsNamed (pcd.form_fault line kind o fields)
pcd_form_named line kind (Some name) fields = if_named (pcd.is_form kind fields) None (Some (fault_of DSC_BAD_PCD_LINE line.at line.text)) tt dsc_bad_pcd_line_named
pcd_form_named line kind None fields = dsc_bad_pcd_line_named

pcd_named : (line : Taken) (kind : StoreKind) → AreNamed (pcd.pcd_faults line kind)
unfolding pcd.pcd_faults
pcd_named line kind =
    let fields : List (List ℕ) = field_texts line.text in
    read_line_named line (pcd.fields_faults line kind fields) (
      pcd_number_named line (pcd.number_field kind fields),
      (first_fault_named (undefined_macro line.at) fields (macros_named line.at), (pcd_form_named line kind (pcd_name_of (first_text fields)) fields, tt)),
    )

-- SKUs
sku_others_named : (line : Taken) (fields : List (List ℕ)) → IsNamed (sku.others_fault line fields)
sku_others_named line [] = tt
sku_others_named line (number ∷ others) = first_fault_named (undefined_macro line.at) others (macros_named line.at)

sku_named : (above : List (List ℕ)) (line : Taken) → AreNamed (sku.sku_faults above line)
unfolding sku.sku_faults
sku_named above line =
    let fields : List (List ℕ) = field_texts line.text in
    let taken : Bool = pcd.is_there (sku.place_of (sku.name_field fields) above) in
    let number : Result ℕ Fault = number_value line.at (first_text fields) in
    read_line_named line (sku.fields_faults line fields taken) (
      fault_in_named number (number_value_fails line.at (first_text fields)),
      (
        sku_others_named line fields,
        (if_named (sku.is_sku_form (sku.number_in number) fields && not taken) None (Some (fault_of BAD_SKU_LINE line.at line.text)) tt bad_sku_line_named, tt),
      ),
    )

-- components
place_named : (line : Taken) → AreNamed (component.out_of_place line)
place_named line = read_line_named line (formless BAD_COMPONENT line (field_texts line.text)) (formless_named BAD_COMPONENT bad_component_named line (field_texts line.text))

begun_named : (line : Taken) → AreNamed (component.begun_faults line)
begun_named line =
    let inf : List ℕ = component.inf_text line.text in
    let faults : List (Option Fault) = require (path_field (without_workspace inf)) (fault_of BAD_PATH line.at inf) ∷ [] in
    if_holds AreNamed (length inf == 0) (component.out_of_place line) (of_read_line line faults) (place_named line)
    (read_line_named line faults (require_named (path_field (without_workspace inf)) (fault_of BAD_PATH line.at inf) bad_path_named, tt))

define_named : (line : Taken) (o : Option (List ℕ × List ℕ)) → AreNamed (component.define_faults line o)
define_named line (Some p) =
    let faults : List (Option Fault) = undefined_macro line.at p.1 ∷ require (guid_of p.1) (fault_of DSC_BAD_GUID line.at p.1) ∷ [] in
    if_holds AreNamed (component.is_file_guid p.0) (of_read_line line faults) []
    (read_line_named line faults (macros_named line.at p.1, (require_named (guid_of p.1) (fault_of DSC_BAD_GUID line.at p.1) dsc_bad_guid_named, tt))) tt
define_named line None = tt

tagged_named : (line : Taken) (tag : Tag) → AreNamed (component.tagged_faults line tag)
tagged_named line tag_.Libraries = library_named line
tagged_named line tag_.Defines = define_named line (split_once 61 line.text)
tagged_named line (tag_.Pcds kind stored) = pcd_named line stored
tagged_named line tag_.Ignored = tt

found_named : (line : Taken) (o : Option Tag) → AreNamed (component.found_faults line o)
found_named line (Some tag) = tt
found_named line None = place_named line

misplaced_named : (line : Taken) (tag : Tag) → AreNamed (component.misplaced_faults line tag)
misplaced_named line tag_.Libraries = place_named line
misplaced_named line tag_.Defines = place_named line
misplaced_named line (tag_.Pcds kind stored) = place_named line
misplaced_named line tag_.Ignored = tt

standing_named : (line : Taken) (standing : Open) (f : Form) → AreNamed (component.standing_faults line standing f)
standing_named line state.Shut form.Plain = begun_named line
standing_named line state.Shut form.Opens = begun_named line
standing_named line state.Shut form.Closes = place_named line
standing_named line state.Shut form.Misplaced = place_named line
standing_named line state.Shut form.Tagged = place_named line
standing_named line state.Untagged form.Plain = place_named line
standing_named line state.Untagged form.Opens = place_named line
standing_named line state.Untagged form.Closes = tt
standing_named line state.Untagged form.Misplaced = place_named line
standing_named line state.Untagged form.Tagged = found_named line (component.tag_named line.text)
standing_named line (state.Tagged tag) form.Plain = tagged_named line tag
standing_named line (state.Tagged tag) form.Opens = tagged_named line tag
standing_named line (state.Tagged tag) form.Closes = tt
standing_named line (state.Tagged tag) form.Misplaced = misplaced_named line tag
standing_named line (state.Tagged tag) form.Tagged = found_named line (component.tag_named line.text)

component_named : (line : Taken) (standing : Open) → AreNamed (component.component_faults line standing)
unfolding component.component_faults
component_named line standing = standing_named line standing (component.form_of line.text)

-- a line below a head
scope_named : (names : List (List ℕ)) (standing : Open) (line : Taken) (s : Scope) → AreNamed (scope_faults names standing line s)
scope_named names standing line scope.Defines = keys_named line
scope_named names standing line scope.SkuIds = sku_named names line
scope_named names standing line (scope.Libraries arch kind) = library_named line
scope_named names standing line (scope.Components arch) = component_named line standing
scope_named names standing line (scope.Pcds p) = pcd_named line p.store

pub line_named : (names : List (List ℕ)) (standing : Open) (line : Taken) (s : Scope) → AreNamed (line_faults names standing line s)
unfolding line_faults
line_named names standing line s = scope_named names standing line s

-- a head
qualifiers_named : (line : Taken) (most : ℕ) (qualifiers : List (List ℕ)) → IsNamed (head.qualifiers_fault line most qualifiers)
qualifiers_named line most qualifiers = if_named (nat_lt most (length qualifiers)) (Some (fault_of BAD_SECTION line.at line.text)) None bad_section_named tt

arch_word_named : (line : Taken) (qualifiers : List (List ℕ)) (arch : Option Arch) → IsNamed (head.arch_fault line qualifiers arch)
arch_word_named line qualifiers arch = require_named arch (fault_of BAD_ARCH line.at (first_text qualifiers)) bad_arch_named

type_named : (line : Taken) (kind : Option (Option ModuleType)) → IsNamed (head.type_fault line kind)
type_named line kind = require_named kind (fault_of BAD_SECTION line.at line.text) bad_section_named

section_named : (line : Taken) (s : Section) (qualifiers : List (List ℕ)) → AreNamed (head.section_faults line s qualifiers)
section_named line section.Defines qualifiers = (qualifiers_named line 0 qualifiers, tt)
section_named line section.SkuIds qualifiers = (qualifiers_named line 0 qualifiers, tt)
section_named line section.Libraries qualifiers =
    (qualifiers_named line 2 qualifiers, (type_named line (head.type_word qualifiers), (arch_word_named line qualifiers (head.arch_word qualifiers), tt)))
section_named line section.Components qualifiers = (qualifiers_named line 1 qualifiers, (arch_word_named line qualifiers (head.arch_word qualifiers), tt))
section_named line (section.Pcds kind store) qualifiers = (qualifiers_named line 2 qualifiers, (arch_word_named line qualifiers (head.arch_word qualifiers), tt))

found_section_named : (line : Taken) (o : Option (Option Section)) (name : List ℕ) (qualifiers : List (List ℕ)) → AreNamed (head.named_faults line o name qualifiers)
found_section_named line (Some (Some s)) name qualifiers = section_named line s qualifiers
found_section_named line (Some None) name qualifiers = tt
found_section_named line None name qualifiers = (dsc_unknown_section_named, tt)

parts_named : (line : Taken) (parts : List (List ℕ)) → AreNamed (head.parts_faults line parts)
parts_named line [] = tt
parts_named line (name ∷ qualifiers) = found_section_named line (head.section_named name) name qualifiers

pub head_named : (line : Taken) (h : Head) → AreNamed (head.head_faults line h)
unfolding head.head_faults
head_named line h = parts_named line h.parts
