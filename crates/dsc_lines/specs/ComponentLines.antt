-- The lines of [Components] (EDK II DSC specification, section 3.16). Which lines are out of place
-- is this project's own rule.
use Rattle.std.specs.Prelude.{ℕ, ◌-◌, ◌==◌, Bool, true, false, if◌then◌else◌, List, [], ◌∷◌, length, take, slice_index, Option, Some, None, codes}
use Rattle.std.specs.Option.{option_map}
use Rattle.build_base.specs.FaultText.{fault_of}
use Rattle.build_base.specs.Guid.{guid_of}
use Rattle.build_base.specs.Path.{path_field}
use Rattle.build_base.specs.declared.fault.Fault.{Fault}
use Rattle.build_base.specs.declared.lines.Taken.{Taken}
use Rattle.meta_lexer.specs.Lines.{without_blanks}
use Rattle.meta_lexer.specs.Lookup.{lookup}
use Rattle.meta_lexer.specs.Parts.{field_texts}
use Rattle.meta_lexer.specs.Words.{split_once, same_word}
use Rattle.macro_expressions.specs.Macros.{without_workspace}
use Rattle.doc_reading.specs.ValueFields.{undefined_macro}
use Rattle.doc_reading.specs.Values.{require, of_read_line}
use Rattle.doc_types.specs.declared.arch.Arch.{Arch}
use Rattle.doc_types.specs.declared.pcd.Kind.TheVariants.{FixedAtBuild, PatchableInModule, FeatureFlag, Dynamic, DynamicEx}
use Rattle.dsc_lines.specs.declared.section.StoreKind.TheVariants.{Plain, Hii, Vpd}
use Rattle.dsc_lines.specs.declared.component_line.Form.{Form}
use Rattle.dsc_lines.specs.declared.component_line.Form.TheVariants as form
use Rattle.dsc_lines.specs.declared.open_mark.Open.{Open}
use Rattle.dsc_lines.specs.declared.open_mark.Open.TheVariants as state
use Rattle.dsc_lines.specs.declared.rows.Part.{Part}
use Rattle.dsc_lines.specs.declared.rows.Part.TheVariants as part
use Rattle.dsc_lines.specs.declared.rows.Tag.{Tag}
use Rattle.dsc_lines.specs.declared.rows.Tag.TheVariants.{Libraries, Defines, Pcds, Ignored}
use Rattle.dsc_lines.specs.Forms.{formless}
use Rattle.dsc_lines.specs.LibraryLines.{library_faults, library_of}
use Rattle.dsc_lines.specs.PcdLines.{pcd_faults, pcd_of}
use Rattle.build_base.specs.FaultCodes.{BAD_COMPONENT, BAD_PATH, DSC_BAD_GUID}

abbrev pub tags : List (List ℕ × Tag)
tags =
    (codes "<LibraryClasses>", Libraries) ∷ (codes "<Defines>", Defines)
    ∷ (codes "<BuildOptions>", Ignored) ∷
    (codes "<PcdsFeatureFlag>", Pcds FeatureFlag Plain)
    ∷ (codes "<PcdsFixedAtBuild>", Pcds FixedAtBuild Plain) ∷
    (codes "<PcdsPatchableInModule>", Pcds PatchableInModule Plain) ∷
    (codes "<PcdsDynamicDefault>", Pcds Dynamic Plain)
    ∷ (codes "<PcdsDynamicHii>", Pcds Dynamic Hii)
    ∷ (codes "<PcdsDynamicVpd>", Pcds Dynamic Vpd) ∷
    (codes "<PcdsDynamicExDefault>", Pcds DynamicEx Plain)
    ∷ (codes "<PcdsDynamicExHii>", Pcds DynamicEx Hii) ∷
    (codes "<PcdsDynamicExVpd>", Pcds DynamicEx Vpd) ∷ []

unfoldable pub tag_named : List ℕ → Option Tag
tag_named text = lookup tags text

-- `}` alone, a `}` with more behind it, a tag in `<` `>`, a line with `{` at its end, or another
-- one
unfoldable pub form_of : List ℕ → Form
form_of text =
    if slice_index text 0 == 125 then (if length text == 1 then form.Closes else form.Misplaced)
    else if slice_index text 0 == 60 then form.Tagged
    else if slice_index text (length text - 1) == 123 then form.Opens
    else form.Plain

-- the path, without the brace
unfoldable pub inf_text : List ℕ → List ℕ
inf_text text = if slice_index text (length text - 1) == 123
    then without_blanks (take (length text - 1) text) else text

-- a brace, a tag or a line out of place
abbrev pub out_of_place : Taken → List (Option Fault)
out_of_place line = of_read_line line (formless BAD_COMPONENT line (field_texts line.text))

-- a brace without a path is out of place
abbrev pub inf_faults : Taken → List ℕ → List (Option Fault)
inf_faults line inf =
    if length inf == 0 then out_of_place line
    else of_read_line line
    (require (path_field (without_workspace inf)) (fault_of BAD_PATH line.at inf)
    ∷ [])

abbrev pub begun_faults : Taken → List (Option Fault)
begun_faults line = inf_faults line (inf_text line.text)

abbrev pub made_begun : Taken → Arch → Bool → Option (List ℕ) → Option Part
made_begun line arch braced (Some inf) =
    Some (part.Begins (record { at = line.at; arch = arch; inf = inf; braced = braced }))
made_begun line arch braced None = None

abbrev pub begun_part : Taken → Arch → Bool → Option Part
begun_part line arch braced =
    made_begun line arch braced (path_field (without_workspace (inf_text line.text)))

-- `FILE_GUID = guid`; a line of another key, or of none, is read past
abbrev pub is_file_guid : List ℕ → Bool
is_file_guid key = same_word key (codes "FILE_GUID")

abbrev pub define_faults : Taken → Option (List ℕ × List ℕ) → List (Option Fault)
define_faults line (Some p) =
    if is_file_guid p.0 then of_read_line line
    (undefined_macro line.at p.1 ∷ require (guid_of p.1) (fault_of DSC_BAD_GUID line.at p.1) ∷ [])
    else []
define_faults line None = []

abbrev pub define_part : Arch → Option (List ℕ × List ℕ) → Option Part
define_part arch (Some p) = if is_file_guid p.0 then option_map (part.FileGuid arch) (guid_of p.1)
    else None
define_part arch None = None

-- a line below a tag is judged as one of the section of its name
abbrev pub tagged_faults : Taken → Tag → List (Option Fault)
tagged_faults line Libraries = library_faults line
tagged_faults line Defines = define_faults line (split_once 61 line.text)
tagged_faults line (Pcds kind stored) = pcd_faults line stored
tagged_faults line Ignored = []

abbrev pub tagged_part : Taken → Arch → Tag → Option Part
tagged_part line arch Libraries = option_map part.Library (library_of line arch None)
tagged_part line arch Defines = define_part arch (split_once 61 line.text)
tagged_part line arch (Pcds kind stored) =
    option_map part.Pcd (pcd_of line kind stored arch (codes "DEFAULT"))
tagged_part line arch Ignored = None

abbrev pub found_faults : Taken → Option Tag → List (Option Fault)
found_faults line (Some tag) = []
found_faults line None = out_of_place line

abbrev pub misplaced_faults : Taken → Tag → List (Option Fault)
misplaced_faults line Libraries = out_of_place line
misplaced_faults line Defines = out_of_place line
misplaced_faults line (Pcds kind stored) = out_of_place line
misplaced_faults line Ignored = []

-- where no brace is open
abbrev pub shut_faults : Taken → Form → List (Option Fault)
shut_faults line form.Plain = begun_faults line
shut_faults line form.Opens = begun_faults line
shut_faults line form.Closes = out_of_place line
shut_faults line form.Misplaced = out_of_place line
shut_faults line form.Tagged = out_of_place line

abbrev pub shut_part : Taken → Arch → Form → Option Part
shut_part line arch form.Plain = begun_part line arch false
shut_part line arch form.Opens = begun_part line arch true
shut_part line arch form.Closes = None
shut_part line arch form.Misplaced = None
shut_part line arch form.Tagged = None

-- within braces, above the first tag
abbrev pub untagged_faults : Taken → Form → List (Option Fault)
untagged_faults line form.Plain = out_of_place line
untagged_faults line form.Opens = out_of_place line
untagged_faults line form.Closes = []
untagged_faults line form.Misplaced = out_of_place line
untagged_faults line form.Tagged = found_faults line (tag_named line.text)

abbrev pub untagged_part : Taken → Form → Option Part
untagged_part line form.Plain = None
untagged_part line form.Opens = None
untagged_part line form.Closes = Some part.Closes
untagged_part line form.Misplaced = None
untagged_part line form.Tagged = option_map part.Tagged (tag_named line.text)

-- below a tag
abbrev pub below_faults : Taken → Tag → Form → List (Option Fault)
below_faults line tag form.Plain = tagged_faults line tag
below_faults line tag form.Opens = tagged_faults line tag
below_faults line tag form.Closes = []
below_faults line tag form.Misplaced = misplaced_faults line tag
below_faults line tag form.Tagged = found_faults line (tag_named line.text)

abbrev pub below_part : Taken → Arch → Tag → Form → Option Part
below_part line arch tag form.Plain = tagged_part line arch tag
below_part line arch tag form.Opens = tagged_part line arch tag
below_part line arch tag form.Closes = Some part.Closes
below_part line arch tag form.Misplaced = None
below_part line arch tag form.Tagged = option_map part.Tagged (tag_named line.text)

abbrev pub standing_faults : Taken → Open → Form → List (Option Fault)
standing_faults line state.Shut form = shut_faults line form
standing_faults line state.Untagged form = untagged_faults line form
standing_faults line (state.Tagged tag) form = below_faults line tag form

abbrev pub standing_part : Taken → Arch → Open → Form → Option Part
standing_part line arch state.Shut form = shut_part line arch form
standing_part line arch state.Untagged form = untagged_part line form
standing_part line arch (state.Tagged tag) form = below_part line arch tag form

-- the faults of a line, one for each code, where this is open above it
unfoldable pub component_faults : Taken → Open → List (Option Fault)
component_faults line standing = standing_faults line standing (form_of line.text)

unfoldable pub component_part : Taken → Arch → Open → Option Part
component_part line arch standing = standing_part line arch standing (form_of line.text)

-- below `<Defines>` and `<BuildOptions>` lines are read past; elsewhere each line gives a row
abbrev pub Tells : Open → Type 0
Tells (state.Tagged Defines) = ⊥
Tells (state.Tagged Ignored) = ⊥
Tells standing = Unit {0}
