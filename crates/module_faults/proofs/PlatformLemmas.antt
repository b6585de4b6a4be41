-- The paths of a platform that is read: its folder of outputs, and its components' INF files.
use Rattle.std.specs.List.{AllByRecursion, flat_map}
use Rattle.std.specs.Option.{option_map}
use Rattle.std.proofs.Common.{◌≡◌, ℕ, ◌++◌, ◌==◌, ◌-◌, Bool, true, false, List, [], ◌∷◌, length, codes, unwrap_or, slice_index, Option, Some, None, Result, Ok, Err, refl, subst}
use Rattle.build_base.specs.First.{and_then}
use Rattle.build_base.specs.Guid.{guid_of}
use Rattle.build_base.specs.Path.{IsPathField, path_field}
use Rattle.build_base.specs.declared.fault.Fault.{Fault}
use Rattle.build_base.specs.declared.fault.Place.{Place}
use Rattle.build_base.specs.declared.guid.Guid.{Guid as GuidBytes}
use Rattle.build_base.specs.declared.lines.Lines.{Lines}
use Rattle.build_base.specs.declared.lines.Taken.{Taken}
use Rattle.macro_expressions.specs.Macros.{without_workspace}
use Rattle.meta_lexer.specs.Words.{split_once}
use Rattle.doc_reading.specs.Blocks.{Block, blocks}
use Rattle.doc_reading.specs.Grammar.{Read, entered, gave, first_fault, read_of, rows_of}
use Rattle.doc_reading.specs.SegmentNames.{IsSegmentName, segment_name}
use Rattle.doc_reading.specs.ValueFields.{text_value, path_value}
use Rattle.doc_reading.proofs.KeptLemmas.{unless_value}
use Rattle.doc_reading.proofs.SegmentNameLemmas.{folder_is_path}
use Rattle.doc_types.specs.declared.arch.Arch.{Arch}
use Rattle.doc_types.specs.declared.choice.Module.{Module}
use Rattle.doc_types.specs.declared.platform.Component.{Component}
use Rattle.doc_types.specs.declared.platform.PlatformDoc.{PlatformDoc}
use Rattle.dsc_lines.specs.Arches.{arches_value}
use Rattle.dsc_lines.specs.ComponentLines.{inf_text, begun_part, made_begun, is_file_guid, define_part, tag_named, tagged_part, form_of, shut_part, untagged_part, below_part, component_part}
use Rattle.dsc_lines.specs.KeyLines.{keys, key_named, row_with, pair_row, halves_row, key_line_row}
use Rattle.dsc_lines.specs.LibraryLines.{library_of}
use Rattle.dsc_lines.specs.Lines.{line_row}
use Rattle.dsc_lines.specs.PcdLines.{pcd_of}
use Rattle.dsc_lines.specs.SkuLines.{sku_of}
use Rattle.dsc_lines.specs.Standing.{parts_in, open_below}
use Rattle.dsc_lines.specs.declared.open_mark.Open.{Open}
use Rattle.dsc_lines.specs.declared.open_mark.Open.TheVariants as state
use Rattle.dsc_lines.specs.declared.rows.DscRow.{DscRow}
use Rattle.dsc_lines.specs.declared.rows.DscRow.TheVariants as row
use Rattle.dsc_lines.specs.declared.rows.KeyValue.{KeyValue}
use Rattle.dsc_lines.specs.declared.rows.KeyValue.TheVariants as value_of
use Rattle.dsc_lines.specs.declared.rows.Part.{Part}
use Rattle.dsc_lines.specs.declared.rows.Part.TheVariants as part
use Rattle.dsc_lines.specs.declared.rows.Tag.{Tag}
use Rattle.dsc_lines.specs.declared.rows.Tag.TheVariants as tag
use Rattle.dsc_lines.specs.declared.section.Scope.{Scope}
use Rattle.dsc_lines.specs.declared.section.Scope.TheVariants as scope
use Rattle.dsc_lines.proofs.ShapeLemmas.{named_ok}
use Rattle.dsc_platform.specs.Cutting.{begins, component_of, all_parts, block_components, lines_of, components_of}
use Rattle.dsc_platform.specs.Platform.{dsc_grammar, whole_fault, with_required, required, document_of, platform_made, platform_of}
use Rattle.dsc_platform.specs.SkuUses.{uses_of}
use Rattle.dsc_platform.specs.Stating.{name_in, output_in, nothing, with_rows}
use Rattle.step_answers.specs.Settings.{arches_built, module_where, modules_for, modules_of, built_modules}
use Rattle.pcd_resolve.specs.Names.{covers}
use Rattle.module_faults.proofs.PartLemmas.{Domain, TypeOf, Holds, mapped_holds, after_fault}
use Rattle.module_faults.proofs.PathLemmas.{field_given}
use Rattle.module_faults.proofs.RowLemmas.{front_all, behind_all, mapped_all, last_holds, rows_have}
use Rattle.text_faults.proofs.PartLemmas.{lookup_holds}
use Rattle.named_faults.proofs.NamedLemmas.{if_holds}
use Rattle.job_fields.proofs.LineLemmas.{both_all}

-- Rows.

abbrev PartFits : Part → Type 0
PartFits (part.Begins begun) = IsPathField begun.inf
PartFits (part.Tagged t) = Unit {0}
PartFits (part.Library library) = Unit {0}
PartFits (part.Pcd pcd) = Unit {0}
PartFits (part.FileGuid arch guid) = Unit {0}
PartFits part.Closes = Unit {0}

abbrev ValueFits : KeyValue → Type 0
ValueFits (value_of.Name name) = IsSegmentName name
ValueFits (value_of.Guid guid) = Unit {0}
ValueFits (value_of.Arches arches) = Unit {0}
ValueFits (value_of.Output output) = IsPathField output
ValueFits (value_of.SkuChoice at choice) = Unit {0}
ValueFits (value_of.Flash flash) = Unit {0}

abbrev RowFits : DscRow → Type 0
RowFits (row.Key value) = ValueFits value
RowFits (row.Sku sku) = Unit {0}
RowFits (row.Library library) = Unit {0}
RowFits (row.Pcd pcd) = Unit {0}
RowFits (row.Part p) = PartFits p

-- A key's line.

name_fits : (at : Place) (text : List ℕ) (r : Result (List ℕ) Fault) → segment_name at text ≡ r → Holds RowFits (row_with value_of.Name r)
name_fits at text (Ok name) e = named_ok at text name e
name_fits at text (Err fault) e = tt

value_fits : {T : Type 0} (make : T → KeyValue) (r : Result T Fault) → ((x : T) → ValueFits (make x)) → Holds RowFits (row_with make r)
value_fits make (Ok x) n = n x
value_fits make (Err fault) n = tt

output_fits : (text : List ℕ) (found : Option (List ℕ)) → path_field text ≡ found → Holds RowFits (option_map (λ folder. row.Key (value_of.Output folder)) found)
output_fits text None e = tt
output_fits text (Some path) e = field_given text path e

pair_fits : (line : Taken) (word value : List ℕ) → Holds RowFits (pair_row line (key_named word) value)
unfolding key_named
pair_fits line word value =
    lookup_holds (λ key. Holds RowFits (pair_row line key value)) keys word (
      name_fits line.at value (segment_name line.at value) refl,
      (
        mapped_holds RowFits (λ guid. row.Key (value_of.Guid guid)) (guid_of value) (λ guid. tt),
        (
          value_fits value_of.Arches (arches_value line.at value) (λ arches. tt),
          (
            output_fits (without_workspace value) (path_field (without_workspace value)) refl,
            (
              value_fits (λ choice. value_of.SkuChoice line.at choice) (text_value line.at value) (λ choice. tt),
              (value_fits value_of.Flash (path_value line.at value) (λ path. tt), tt),
            ),
          ),
        ),
      ),
    )
    tt

halves_fit : (line : Taken) (halves : Option (List ℕ × List ℕ)) → Holds RowFits (halves_row line halves)
halves_fit line (Some p) = pair_fits line p.0 p.1
halves_fit line None = tt

key_fits : (line : Taken) → Holds RowFits (key_line_row line)
unfolding key_line_row
key_fits line = halves_fit line (split_once 61 line.text)

-- A line of components.

begun_by : (line : Taken) (arch : Arch) (braced : Bool) (text : List ℕ) (found : Option (List ℕ)) → path_field text ≡ found → Holds PartFits (made_begun line arch braced found)
begun_by line arch braced text None e = tt
begun_by line arch braced text (Some path) e = field_given text path e

begun_fits : (line : Taken) (arch : Arch) (braced : Bool) → Holds PartFits (begun_part line arch braced)
begun_fits line arch braced = begun_by line arch braced (without_workspace (inf_text line.text)) (path_field (without_workspace (inf_text line.text))) refl

define_fits : (arch : Arch) (p : Option (List ℕ × List ℕ)) → Holds PartFits (define_part arch p)
define_fits arch None = tt
define_fits arch (Some p) = if_holds (Holds PartFits) (is_file_guid p.0) _ _ (mapped_holds PartFits (part.FileGuid arch) (guid_of p.1) (λ guid. tt)) tt

tagged_fits : (line : Taken) (arch : Arch) (t : Tag) → Holds PartFits (tagged_part line arch t)
tagged_fits line arch tag.Libraries = mapped_holds PartFits part.Library (library_of line arch None) (λ library. tt)
tagged_fits line arch tag.Defines = define_fits arch (split_once 61 line.text)
tagged_fits line arch (tag.Pcds kind stored) = mapped_holds PartFits part.Pcd (pcd_of line kind stored arch (codes "DEFAULT")) (λ pcd. tt)
tagged_fits line arch tag.Ignored = tt

tag_fits : (text : List ℕ) → Holds PartFits (option_map part.Tagged (tag_named text))
tag_fits text = mapped_holds PartFits part.Tagged (tag_named text) (λ t. tt)

abbrev ShutFits : (line : Taken) (arch : Arch) → Domain (shut_part line arch) → Type 0
ShutFits line arch f = Holds PartFits (shut_part line arch f)

abbrev UntaggedFits : (line : Taken) → Domain (untagged_part line) → Type 0
UntaggedFits line f = Holds PartFits (untagged_part line f)

abbrev BelowFits : (line : Taken) (arch : Arch) (t : Tag) → Domain (below_part line arch t) → Type 0
BelowFits line arch t f = Holds PartFits (below_part line arch t f)

part_fits : (line : Taken) (arch : Arch) (standing : Open) → Holds PartFits (component_part line arch standing)
unfolding component_part form_of
part_fits line arch state.Shut =
    if_holds (ShutFits line arch) (slice_index line.text 0 == 125) _ _ (if_holds (ShutFits line arch) (length line.text == 1) _ _ tt tt)
    (if_holds (ShutFits line arch) (slice_index line.text 0 == 60) _ _ tt
    (if_holds (ShutFits line arch) (slice_index line.text (length line.text - 1) == 123) _ _ (begun_fits line arch true) (begun_fits line arch false)))
part_fits line arch state.Untagged =
    if_holds (UntaggedFits line) (slice_index line.text 0 == 125) _ _ (if_holds (UntaggedFits line) (length line.text == 1) _ _ tt tt)
    (if_holds (UntaggedFits line) (slice_index line.text 0 == 60) _ _ (tag_fits line.text)
    (if_holds (UntaggedFits line) (slice_index line.text (length line.text - 1) == 123) _ _ tt tt))
part_fits line arch (state.Tagged t) =
    if_holds (BelowFits line arch t) (slice_index line.text 0 == 125) _ _ (if_holds (BelowFits line arch t) (length line.text == 1) _ _ tt tt)
    (if_holds (BelowFits line arch t) (slice_index line.text 0 == 60) _ _ (tag_fits line.text)
    (if_holds (BelowFits line arch t) (slice_index line.text (length line.text - 1) == 123) _ _ (tagged_fits line arch t) (tagged_fits line arch t)))

component_fits : (found : Option Part) → Holds PartFits found → Holds RowFits (option_map row.Part found)
component_fits None h = tt
component_fits (Some p) h = h

row_fits : (standing : Open) (line : Taken) (s : Scope) → Holds RowFits (line_row standing line s)
unfolding line_row
row_fits standing line scope.Defines = key_fits line
row_fits standing line scope.SkuIds = mapped_holds RowFits row.Sku (sku_of line) (λ sku. tt)
row_fits standing line (scope.Libraries arch kind) = mapped_holds RowFits row.Library (library_of line arch kind) (λ library. tt)
row_fits standing line (scope.Components arch) = component_fits (component_part line arch standing) (part_fits line arch standing)
row_fits standing line (scope.Pcds p) = mapped_holds RowFits row.Pcd (pcd_of line p.kind p.store p.arch p.sku) (λ pcd. tt)

-- What all rows state.

names_fit : (r : DscRow) → RowFits r → AllByRecursion IsSegmentName (name_in r)
names_fit (row.Key (value_of.Name name)) h = (h, tt)
names_fit (row.Key (value_of.Guid guid)) h = tt
names_fit (row.Key (value_of.Arches arches)) h = tt
names_fit (row.Key (value_of.Output output)) h = tt
names_fit (row.Key (value_of.SkuChoice at choice)) h = tt
names_fit (row.Key (value_of.Flash flash)) h = tt
names_fit (row.Sku sku) h = tt
names_fit (row.Library library) h = tt
names_fit (row.Pcd pcd) h = tt
names_fit (row.Part p) h = tt

outputs_fit : (r : DscRow) → RowFits r → AllByRecursion IsPathField (output_in r)
outputs_fit (row.Key (value_of.Name name)) h = tt
outputs_fit (row.Key (value_of.Guid guid)) h = tt
outputs_fit (row.Key (value_of.Arches arches)) h = tt
outputs_fit (row.Key (value_of.Output output)) h = (h, tt)
outputs_fit (row.Key (value_of.SkuChoice at choice)) h = tt
outputs_fit (row.Key (value_of.Flash flash)) h = tt
outputs_fit (row.Sku sku) h = tt
outputs_fit (row.Library library) h = tt
outputs_fit (row.Pcd pcd) h = tt
outputs_fit (row.Part p) h = tt

parts_fit : (r : DscRow) → RowFits r → AllByRecursion PartFits (parts_in r)
parts_fit (row.Key value) h = tt
parts_fit (row.Sku sku) h = tt
parts_fit (row.Library library) h = tt
parts_fit (row.Pcd pcd) h = tt
parts_fit (row.Part p) h = (h, tt)

-- Components.

abbrev AreParts : List Part → Type 0
AreParts parts = AllByRecursion PartFits parts

lines_fit : (reads : List (Read Scope DscRow)) → AllByRecursion RowFits (rows_of reads) → AllByRecursion AreParts (lines_of reads)
lines_fit [] h = tt
lines_fit (entered at scopes ∷ reads) h = lines_fit reads h
lines_fit (gave rows ∷ reads) h =
    (mapped_all RowFits PartFits parts_in parts_fit rows (front_all RowFits rows (rows_of reads) h), lines_fit reads (behind_all RowFits rows (rows_of reads) h))

abbrev FirstFits : Block (List Part) → Type 0
FirstFits block = AreParts block.first

blocks_fit : (lines : List (List Part)) → AllByRecursion AreParts lines → AllByRecursion FirstFits (blocks begins lines)
blocks_fit [] h = tt
blocks_fit (line ∷ lines) h = if_holds (AllByRecursion FirstFits) (begins line) _ _ (h.0, blocks_fit lines h.1) (blocks_fit lines h.1)

-- a component's INF file has a path
abbrev pub ComponentFits : Component → Type 0
ComponentFits component = IsPathField component.inf

one_fits : (rest : List Part) (p : Part) → PartFits p → AllByRecursion ComponentFits (component_of rest p)
one_fits rest (part.Begins begun) h = (h, tt)
one_fits rest (part.Tagged t) h = tt
one_fits rest (part.Library library) h = tt
one_fits rest (part.Pcd pcd) h = tt
one_fits rest (part.FileGuid arch guid) h = tt
one_fits rest part.Closes h = tt

block_fits : (block : Block (List Part)) → FirstFits block → AllByRecursion ComponentFits (block_components block)
block_fits block h = mapped_all PartFits ComponentFits (component_of (all_parts block.rest)) (one_fits (all_parts block.rest)) block.first h

components_fit : (reads : List (Read Scope DscRow)) → AllByRecursion RowFits (rows_of reads) → AllByRecursion ComponentFits (components_of reads)
components_fit reads h =
    mapped_all FirstFits ComponentFits block_components block_fits (blocks begins (lines_of reads)) (blocks_fit (lines_of reads) (lines_fit reads h))

-- The platform.

pub record PlatformFits (platform : PlatformDoc) : Type 0 where
  pub output : IsPathField platform.output
  pub components : AllByRecursion ComponentFits platform.components

folder_fits : (name : List ℕ) (output : Option (List ℕ)) → IsSegmentName name → Holds IsPathField output → IsPathField (unwrap_or output (codes "Build/" ++ name))
folder_fits name None n h = folder_is_path name n
folder_fits name (Some output) n h = h

required_fits : (lines : Lines) (stated : TypeOf nothing) (components : List Component) (uses : TypeOf (uses_of [])) (name : Option (List ℕ)) (guid : Option GuidBytes) (arches : Option (List Arch)) (platform : PlatformDoc)
    → Holds IsSegmentName name → Holds IsPathField stated.keys.options.output → AllByRecursion ComponentFits components → required lines stated components uses name guid arches ≡ Ok platform → PlatformFits platform
required_fits lines stated components uses None guid arches platform n o c e = absurd cc
required_fits lines stated components uses (Some name) None arches platform n o c e = absurd cc
required_fits lines stated components uses (Some name) (Some guid) None platform n o c e = absurd cc
required_fits lines stated components uses (Some name) (Some guid) (Some arches) platform n o c e =
    let made = with_required lines stated.keys.options stated.skus stated.libraries stated.pcds components name guid arches in
    subst PlatformFits (unless_value (whole_fault stated.skus components uses) made platform e)
    (record { output = folder_fits name stated.keys.options.output n o; components = c })

made_fits : (lines : Lines) (reads : List (Read Scope DscRow)) (platform : PlatformDoc) → AllByRecursion RowFits (rows_of reads) → platform_made lines reads ≡ Ok platform → PlatformFits platform
unfolding platform_made document_of
made_fits lines reads platform h e =
    let rows = rows_of reads in
    let stated = with_rows nothing rows in
    required_fits lines stated (components_of reads) (uses_of reads) stated.keys.name stated.keys.guid stated.keys.arches platform
    (last_holds IsSegmentName None (flat_map name_in rows) tt (mapped_all RowFits IsSegmentName name_in names_fit rows h))
    (last_holds IsPathField None (flat_map output_in rows) tt (mapped_all RowFits IsPathField output_in outputs_fit rows h))
    (components_fit reads h) e

pub platform_fits : (lines : Lines) (platform : PlatformDoc) → platform_of lines ≡ Ok platform → PlatformFits platform
unfolding platform_of
platform_fits lines platform e =
    let reads = read_of dsc_grammar lines.rows in
    made_fits lines reads platform (rows_have dsc_grammar RowFits (λ above line s f. row_fits (open_below (rows_of above)) line s) lines.rows)
    (after_fault (first_fault dsc_grammar lines.rows) (platform_made lines reads) platform e)

-- Modules.

abbrev pub ModuleFits : Module → Type 0
ModuleFits m = IsPathField m.inf

where_fits : (arch : Arch) (component : Component) → ComponentFits component → AllByRecursion ModuleFits (module_where arch component)
where_fits arch component h = if_holds (AllByRecursion ModuleFits) (covers component.arch arch) _ _ (h, tt) tt

each_arch : (arches : List Arch) (components : List Component) → AllByRecursion ComponentFits components → AllByRecursion ModuleFits (flat_map (modules_for components) arches)
each_arch [] components h = tt
each_arch (arch ∷ arches) components h =
    both_all ModuleFits (modules_for components arch) (flat_map (modules_for components) arches) (mapped_all ComponentFits ModuleFits (module_where arch) (where_fits arch) components h) (each_arch arches components h)

built_by : (arches : Result (List Arch) Fault) (components : List Component) (modules : List Module) → AllByRecursion ComponentFits components
    → and_then arches (λ built. Ok (modules_of built components)) ≡ Ok modules → AllByRecursion ModuleFits modules
unfolding modules_of
built_by (Ok arches) components modules h e =
    let same : flat_map (modules_for components) arches ≡ modules = cc in subst (AllByRecursion ModuleFits) same (each_arch arches components h)
built_by (Err fault) components modules h e = absurd cc

-- a module that is built has a path
pub modules_fit : (platform : PlatformDoc) (text : List ℕ) (modules : List Module) → PlatformFits platform → built_modules platform text ≡ Ok modules → AllByRecursion ModuleFits modules
unfolding built_modules
modules_fit platform text modules h e = built_by (arches_built platform text) platform.components modules h.components e
