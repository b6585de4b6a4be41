-- Lines of which no condition holds give rows.
use Rattle.std.proofs.Common.{◌≡◌, ◌==◌, ℕ, Bool, true, false, if◌then◌else◌, List, [], ◌∷◌, length, Option, Some, None, option_map, Result, Ok, Err, refl, codes}
use Rattle.std.specs.Option.{IsSome}
use Rattle.build_base.specs.FaultCodes.{BAD_COMPONENT, BAD_LIBRARY_LINE, BAD_PATH, DSC_BAD_GUID}
use Rattle.build_base.specs.FaultText.{fault_of}
use Rattle.build_base.specs.Guid.{guid_of}
use Rattle.build_base.specs.Path.{path_field}
use Rattle.build_base.specs.declared.fault.Fault.{Fault}
use Rattle.build_base.specs.declared.lines.Taken.{Taken}
use Rattle.meta_lexer.specs.Faults.{first_fault}
use Rattle.meta_lexer.specs.Parts.{first_text, field_texts}
use Rattle.macro_expressions.specs.Macros.{without_workspace}
use Rattle.doc_reading.specs.Least.{least_of, fault_in}
use Rattle.doc_reading.specs.SegmentNames.{segment_name}
use Rattle.doc_reading.specs.ValueFields.{undefined_macro, number_value, text_value, path_value}
use Rattle.doc_reading.specs.Values.{require, of_read_line}
use Rattle.doc_reading.proofs.FaultlessLemmas.{least_first, least_rest, least_read, wanted_given}
use Rattle.doc_types.specs.Pcds.{pcd_name_of}
use Rattle.doc_types.specs.declared.arch.Arch.{Arch}
use Rattle.doc_types.specs.declared.module_type.ModuleType.{ModuleType}
use Rattle.doc_types.specs.declared.pcd.Kind.{Kind}
use Rattle.doc_types.specs.declared.pcd.PcdName.{PcdName}
use Rattle.dsc_lines.specs.declared.component_line.Form.{Form}
use Rattle.dsc_lines.specs.declared.component_line.Form.TheVariants as form
use Rattle.dsc_lines.specs.declared.key_line.PlatformKey.{PlatformKey}
use Rattle.dsc_lines.specs.declared.key_line.PlatformKey.TheVariants as key
use Rattle.dsc_lines.specs.declared.open_mark.Open.{Open}
use Rattle.dsc_lines.specs.declared.open_mark.Open.TheVariants as state
use Rattle.dsc_lines.specs.declared.rows.KeyValue.{KeyValue}
use Rattle.dsc_lines.specs.declared.rows.Tag.{Tag}
use Rattle.dsc_lines.specs.declared.rows.Tag.TheVariants as tag
use Rattle.dsc_lines.specs.declared.section.Scope.{Scope}
use Rattle.dsc_lines.specs.declared.section.Scope.TheVariants as scope
use Rattle.dsc_lines.specs.declared.section.StoreKind.{StoreKind}
use Rattle.dsc_lines.specs.Arches.{arches_value}
use Rattle.dsc_lines.specs.ComponentLines as components
use Rattle.dsc_lines.specs.Forms.{formless}
use Rattle.dsc_lines.specs.KeyLines as keys
use Rattle.dsc_lines.specs.LibraryLines as libraries
use Rattle.dsc_lines.specs.Lines.{line_faults, line_row, Lists}
use Rattle.dsc_lines.specs.PcdLines as pcds
use Rattle.dsc_lines.specs.SkuLines as skus

mapped : {A B : Type 0} (f : A → B) (o : Option A) → IsSome o → IsSome (option_map f o)
mapped f (Some x) h = refl
mapped f None h = absurd cc

held : {X : Type 0} (fault : Fault) → least_of (Some fault ∷ []) ≡ None → X
held fault e = absurd cc

-- a line of no form has a fault
formed : {X : Type 0} (code : ℕ) (line : Taken) (fields : List (List ℕ)) → least_of (formless code line fields) ≡ None → X
formed code line fields e = held (fault_of code line.at line.text) (least_rest (first_fault (undefined_macro line.at) fields) (Some (fault_of code line.at line.text) ∷ []) e)

placed : {X : Type 0} (line : Taken) → least_of (components.out_of_place line) ≡ None → X
placed line e = formed BAD_COMPONENT line (field_texts line.text) (least_read line (formless BAD_COMPONENT line (field_texts line.text)) e)

-- a library's line
library_made : (line : Taken) (arch : Arch) (kind : Option ModuleType) (class : List ℕ) (instance : Option (List ℕ)) (missing : Fault) → require instance missing ≡ None → IsSome (libraries.made_library line arch kind class instance)
library_made line arch kind class (Some instance) missing e = refl
library_made line arch kind class None missing e = absurd cc

library_fields : (line : Taken) (arch : Arch) (kind : Option ModuleType) (fields : List (List ℕ)) → least_of (libraries.fields_faults line fields) ≡ None → IsSome (libraries.fields_library line arch kind fields)
library_fields line arch kind [] e = formed BAD_LIBRARY_LINE line [] e
library_fields line arch kind (class ∷ []) e = formed BAD_LIBRARY_LINE line (class ∷ []) e
library_fields line arch kind (class ∷ path ∷ []) e =
    let last = require (path_field (without_workspace path)) (fault_of BAD_PATH line.at path) in
    library_made line arch kind class (path_field (without_workspace path)) (fault_of BAD_PATH line.at path)
    (least_first last []
    (least_rest (undefined_macro line.at class) (last ∷ [])
    (least_rest (libraries.class_fault line class) (undefined_macro line.at class ∷ last ∷ []) e)))
library_fields line arch kind (class ∷ path ∷ third ∷ more) e = formed BAD_LIBRARY_LINE line (class ∷ path ∷ third ∷ more) e

library_given : (line : Taken) (arch : Arch) (kind : Option ModuleType) → least_of (libraries.library_faults line) ≡ None → IsSome (libraries.library_of line arch kind)
unfolding libraries.library_faults libraries.library_of
library_given line arch kind e = library_fields line arch kind (field_texts line.text) (least_read line (libraries.fields_faults line (field_texts line.text)) e)

-- a PCD's line
pcd_made : (line : Taken) (kind : Kind) (stored : StoreKind) (arch : Arch) (sku : List ℕ) (pcd : Option PcdName) (fields : List (List ℕ)) → pcds.form_fault line stored pcd fields ≡ None → IsSome (pcds.made_pcd line kind stored arch sku pcd fields)
pcd_made line kind stored arch sku (Some pcd) fields e = refl
pcd_made line kind stored arch sku None fields e = absurd cc

pcd_fields : (line : Taken) (kind : Kind) (stored : StoreKind) (arch : Arch) (sku : List ℕ) (fields : List (List ℕ)) → least_of (pcds.fields_faults line stored fields) ≡ None → IsSome (pcds.fields_pcd line kind stored arch sku fields)
pcd_fields line kind stored arch sku fields e =
    let number = pcds.number_fault line (pcds.number_field stored fields) in
    let macros = first_fault (undefined_macro line.at) fields in
    let last = pcds.form_fault line stored (pcd_name_of (first_text fields)) fields in
    pcd_made line kind stored arch sku (pcd_name_of (first_text fields)) fields
    (least_first last [] (least_rest macros (last ∷ []) (least_rest number (macros ∷ last ∷ []) e)))

pcd_given : (line : Taken) (kind : Kind) (stored : StoreKind) (arch : Arch) (sku : List ℕ) → least_of (pcds.pcd_faults line stored) ≡ None → IsSome (pcds.pcd_of line kind stored arch sku)
unfolding pcds.pcd_faults pcds.pcd_of
pcd_given line kind stored arch sku e = pcd_fields line kind stored arch sku (field_texts line.text) (least_read line (pcds.fields_faults line stored (field_texts line.text)) e)

-- a SKU's line
sku_numbered : (line : Taken) (id : ℕ) (fields : List (List ℕ)) (taken : Bool) → skus.sku_fault line (Some id) fields taken ≡ None → IsSome (skus.numbered_sku line id fields)
sku_numbered line id [] taken e = absurd cc
sku_numbered line id (field ∷ []) taken e = absurd cc
sku_numbered line id (field ∷ name ∷ []) taken e = refl
sku_numbered line id (field ∷ name ∷ parent ∷ []) taken e = refl
sku_numbered line id (field ∷ name ∷ parent ∷ fourth ∷ more) taken e = absurd cc

sku_by : (line : Taken) (fields : List (List ℕ)) (taken : Bool) (number : Result ℕ Fault) → least_of (skus.faults_with line fields taken number) ≡ None → IsSome (skus.sku_with line fields number)
sku_by line fields taken (Err fault) e =
    let first : Some fault ≡ None = least_first (Some fault) (skus.others_fault line fields ∷ skus.sku_fault line None fields taken ∷ []) e in absurd cc
sku_by line fields taken (Ok id) e =
    let last = skus.sku_fault line (Some id) fields taken in
    sku_numbered line id fields taken
    (least_first last [] (least_rest (skus.others_fault line fields) (last ∷ []) (least_rest None (skus.others_fault line fields ∷ last ∷ []) e)))

sku_given : (above : List (List ℕ)) (line : Taken) → least_of (skus.sku_faults above line) ≡ None → IsSome (skus.sku_of line)
unfolding skus.sku_faults skus.sku_of
sku_given above line e =
    let taken = pcds.is_there (skus.place_of (skus.name_field (field_texts line.text)) above) in
    sku_by line (field_texts line.text) taken (number_value line.at (first_text (field_texts line.text)))
    (least_read line (skus.fields_faults line (field_texts line.text) taken) e)

listed_by : (above : List (List ℕ)) (standing : Open) (line : Taken) (s : Scope) → Lists s → least_of (line_faults above standing line s) ≡ None → IsSome (line_row standing line s)
unfolding line_faults line_row
listed_by above standing line scope.Defines l e = absurd l
listed_by above standing line scope.SkuIds l e = mapped _ (skus.sku_of line) (sku_given above line e)
listed_by above standing line (scope.Libraries arch kind) l e = mapped _ (libraries.library_of line arch kind) (library_given line arch kind e)
listed_by above standing line (scope.Components arch) l e = absurd l
listed_by above standing line (scope.Pcds p) l e = mapped _ (pcds.pcd_of line p.kind p.store p.arch p.sku) (pcd_given line p.kind p.store p.arch p.sku e)

pub listed_given : (above : List (List ℕ)) (standing : Open) (line : Taken) (s : Scope) → Lists s → least_of (line_faults above standing line s) ≡ None → IsSome (line_row standing line s)
listed_given above standing line s l e = listed_by above standing line s l e

-- a component's line
begun_made : (line : Taken) (arch : Arch) (braced : Bool) (inf : Option (List ℕ)) (missing : Fault) → require inf missing ≡ None → IsSome (components.made_begun line arch braced inf)
begun_made line arch braced (Some inf) missing e = refl
begun_made line arch braced None missing e = absurd cc

begun_by : (line : Taken) (arch : Arch) (braced : Bool) (inf : List ℕ) (empty : Bool) → least_of (if empty then components.out_of_place line else of_read_line line (require (path_field (without_workspace inf)) (fault_of BAD_PATH line.at inf) ∷ [])) ≡ None → IsSome (components.made_begun line arch braced (path_field (without_workspace inf)))
begun_by line arch braced inf true e = placed line e
begun_by line arch braced inf false e =
    let last = require (path_field (without_workspace inf)) (fault_of BAD_PATH line.at inf) in
    begun_made line arch braced (path_field (without_workspace inf)) (fault_of BAD_PATH line.at inf) (least_first last [] (least_read line (last ∷ []) e))

begun_given : (line : Taken) (arch : Arch) (braced : Bool) → least_of (components.begun_faults line) ≡ None → IsSome (components.begun_part line arch braced)
begun_given line arch braced e = begun_by line arch braced (components.inf_text line.text) (length (components.inf_text line.text) == 0) e

shut_given : (line : Taken) (arch : Arch) (f : Form) → least_of (components.shut_faults line f) ≡ None → IsSome (components.shut_part line arch f)
shut_given line arch form.Plain e = begun_given line arch false e
shut_given line arch form.Opens e = begun_given line arch true e
shut_given line arch form.Closes e = placed line e
shut_given line arch form.Misplaced e = placed line e
shut_given line arch form.Tagged e = placed line e

tag_given : (line : Taken) (found : Option Tag) → least_of (components.found_faults line found) ≡ None → IsSome found
tag_given line (Some t) e = refl
tag_given line None e = placed line e

untagged_given : (line : Taken) (f : Form) → least_of (components.untagged_faults line f) ≡ None → IsSome (components.untagged_part line f)
untagged_given line form.Plain e = placed line e
untagged_given line form.Opens e = placed line e
untagged_given line form.Closes e = refl
untagged_given line form.Misplaced e = placed line e
untagged_given line form.Tagged e = mapped _ (components.tag_named line.text) (tag_given line (components.tag_named line.text) e)

tagged_given : (line : Taken) (arch : Arch) (t : Tag) → components.Tells (state.Tagged t) → least_of (components.tagged_faults line t) ≡ None → IsSome (components.tagged_part line arch t)
tagged_given line arch tag.Libraries l e = mapped _ (libraries.library_of line arch None) (library_given line arch None e)
tagged_given line arch tag.Defines l e = absurd l
tagged_given line arch (tag.Pcds kind stored) l e = mapped _ (pcds.pcd_of line kind stored arch (codes "DEFAULT")) (pcd_given line kind stored arch (codes "DEFAULT") e)
tagged_given line arch tag.Ignored l e = absurd l

misplaced : {X : Type 0} (line : Taken) (t : Tag) → components.Tells (state.Tagged t) → least_of (components.misplaced_faults line t) ≡ None → X
misplaced line tag.Libraries l e = placed line e
misplaced line tag.Defines l e = absurd l
misplaced line (tag.Pcds kind stored) l e = placed line e
misplaced line tag.Ignored l e = absurd l

below_given : (line : Taken) (arch : Arch) (t : Tag) (f : Form) → components.Tells (state.Tagged t) → least_of (components.below_faults line t f) ≡ None → IsSome (components.below_part line arch t f)
below_given line arch t form.Plain l e = tagged_given line arch t l e
below_given line arch t form.Opens l e = tagged_given line arch t l e
below_given line arch t form.Closes l e = refl
below_given line arch t form.Misplaced l e = misplaced line t l e
below_given line arch t form.Tagged l e = mapped _ (components.tag_named line.text) (tag_given line (components.tag_named line.text) e)

standing_given : (line : Taken) (arch : Arch) (standing : Open) (f : Form) → components.Tells standing → least_of (components.standing_faults line standing f) ≡ None → IsSome (components.standing_part line arch standing f)
standing_given line arch state.Shut f l e = shut_given line arch f e
standing_given line arch state.Untagged f l e = untagged_given line f e
standing_given line arch (state.Tagged t) f l e = below_given line arch t f l e

pub component_given : (line : Taken) (arch : Arch) (standing : Open) → components.Tells standing → least_of (components.component_faults line standing) ≡ None → IsSome (components.component_part line arch standing)
unfolding components.component_faults components.component_part
component_given line arch standing l e = standing_given line arch standing (components.form_of line.text) l e

-- a key's line
row_of : {T : Type 0} (make : T → KeyValue) (value : Result T Fault) → least_of (fault_in value ∷ []) ≡ None → IsSome (keys.row_with make value)
row_of make (Ok value) e = refl
row_of make (Err fault) e = held fault e

key_by : (line : Taken) (k : PlatformKey) (value : List ℕ) → least_of (keys.key_faults line k value) ≡ None → IsSome (keys.key_row line k value)
key_by line key.Name value e = row_of _ (segment_name line.at value) e
key_by line key.Guid value e =
    let guid = require (guid_of value) (fault_of DSC_BAD_GUID line.at value) in
    mapped _ (guid_of value) (wanted_given (guid_of value) (fault_of DSC_BAD_GUID line.at value) (least_first guid [] (least_rest (undefined_macro line.at value) (guid ∷ []) e)))
key_by line key.Arches value e = row_of _ (arches_value line.at value) e
key_by line key.Output value e =
    let path = require (path_field (without_workspace value)) (fault_of BAD_PATH line.at value) in
    mapped _ (path_field (without_workspace value)) (wanted_given (path_field (without_workspace value)) (fault_of BAD_PATH line.at value) (least_first path [] e))
key_by line key.SkuChoice value e = row_of _ (text_value line.at value) e
key_by line key.Flash value e = row_of _ (path_value line.at value) e

pub key_given : (line : Taken) (k : PlatformKey) (value : List ℕ) → least_of (of_read_line line (keys.key_faults line k value)) ≡ None → IsSome (keys.key_row line k value)
key_given line k value e = key_by line k value (least_read line (keys.key_faults line k value) e)
