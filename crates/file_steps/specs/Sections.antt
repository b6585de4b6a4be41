-- The sections of a module's file, by the answers of its step (UEFI PI specification, volume 1, TE
-- images; volume 3, section 2.2.4; EDK II FDF specification, [Rule] sections).
use Rattle.std.specs.Prelude.{◌≡◌, ℕ, ◌==◌, ◌&&◌, is_some, if◌then◌else◌, List, [], ◌∷◌, length, Option, Some, None, Result, Ok, Err}
use Rattle.build_base.specs.declared.fault.Fault.{Fault}
use Rattle.build_base.specs.declared.guid.Guid.{Guid}
use Rattle.build_base.specs.FaultText.{fault_of}
use Rattle.build_base.specs.First.{and_then, unless, with_front}
use Rattle.build_stages.specs.Stages.{impossible_answer}
use Rattle.build_stages.specs.Writing.{given_file, given_part}
use Rattle.step_engine.specs.declared.talk.Answer.{Answer}
use Rattle.step_engine.specs.declared.talk.Answer.TheVariants as answer
use Rattle.step_engine.specs.declared.talk.Pair.{Pair}
use Rattle.step_pack.specs.Keys.{key_cmp}
use Rattle.step_pack.specs.declared.key.Key.{Key}
use Rattle.step_pack.specs.declared.key.Key.TheVariants as key
use Rattle.step_pack.specs.declared.out.Out.{Out}
use Rattle.step_pack.specs.declared.out.Out.TheVariants as out
use Rattle.doc_types.specs.Standard.{EFI_SECTION_FIRMWARE_VOLUME_IMAGE, EFI_SECTION_FREEFORM_SUBTYPE_GUID}
use Rattle.doc_types.specs.declared.image.Part.{Part}
use Rattle.doc_types.specs.declared.volume.Align.{Align}
use Rattle.doc_types.specs.declared.volume.Align.TheVariants as align
use Rattle.doc_types.specs.declared.volume.SectionPlan.{SectionPlan}
use Rattle.doc_types.specs.declared.volume.SectionSource.{SectionSource}
use Rattle.doc_types.specs.declared.volume.SectionSource.TheVariants as source
use Rattle.te_images.specs.declared.fault.PeFault.{PeFault}
use Rattle.te_images.specs.Pe.{section_alignment_of}
use Rattle.file_steps.specs.declared.parts.Shaped.{Shaped}
use Rattle.step_answers.specs.Contents.{whole_file, section_absent}
use Rattle.file_steps.specs.Words.{words_bytes}
use Rattle.file_steps.specs.Files.{file_align}
use Rattle.file_steps.specs.Parts.{as_is, file_shaped, header_guid, pe_fault}
use Rattle.file_steps.specs.ModuleAsks.{is_path_of, takes_depex}
use Rattle.file_steps.specs.Required.{requiring}
use Rattle.file_steps.specs.declared.plans.ModulePlan.{ModulePlan}
use Rattle.build_base.specs.FaultCodes.{FILE_TOO_LONG}

-- What is absent.

abbrev pub absent_at : List ℕ → Option SectionPlan → Option Fault
absent_at path None = None
absent_at path (Some section) = Some (section_absent section.at path)

-- the fault that a file is absent: that of the first of some sections that require it
abbrev pub absent_fault : List SectionPlan → List ℕ → Option Fault
absent_fault sections path = absent_at path (requiring sections path)

abbrev pub too_long : List ℕ → Fault
too_long path = fault_of FILE_TOO_LONG (whole_file path) path

abbrev pub got_checked : List SectionPlan → List ℕ → Answer Out → Result (Unit {0}) Fault
got_checked sections path (answer.Bytes bytes) = Ok tt
got_checked sections path answer.Absent = unless (absent_fault sections path) tt
got_checked sections path answer.TooLong = Err (too_long path)
got_checked sections path (answer.Field text) = Err impossible_answer
got_checked sections path (answer.Part outcome) = Err impossible_answer

-- the file of a section among these
abbrev pub source_checked : List ℕ → List (Pair Key Out) → List SectionPlan → SectionSource
    → Result (Unit {0}) Fault
source_checked depex given sections (source.Tree path) =
    if is_path_of depex path then Ok tt
    else and_then (given_file given path) (got_checked sections path)
source_checked depex given sections (source.Template text) = Ok tt
source_checked depex given sections (source.Volume n) = Ok tt
source_checked depex given sections (source.Words text) = Ok tt
source_checked depex given sections (source.Refused text) = Ok tt

-- The first fault of the files of some of the sections, in the order in which they are asked for:
-- each may be required by any of the sections that name it.
unfoldable pub files_checked : List ℕ → List (Pair Key Out) → List SectionPlan → List SectionPlan
    → Result (Unit {0}) Fault
files_checked depex given all [] = Ok tt
files_checked depex given all (section ∷ sections) =
    and_then (source_checked depex given all section.source)
    (λ checked. files_checked depex given all sections)

abbrev pub depex_of_out : Out → Result (List ℕ) Fault
depex_of_out (out.Depex bytes) = Ok bytes
depex_of_out _ = Err impossible_answer

-- the module's own expression, which is asked for where a section holds it
unfoldable pub own_expression : ModulePlan → List (Pair Key Out) → Result (List ℕ) Fault
own_expression plan given =
    if takes_depex plan.depex plan.file.sections
    then and_then (given_part key_cmp given (key.Depex plan.«module»)) depex_of_out else Ok []

-- an expression without bytes is absent
abbrev pub expression_fault : List ℕ → List SectionPlan → List ℕ → Option Fault
expression_fault depex sections bytes = if length bytes == 0 then absent_fault sections depex
    else None

-- What is there.

abbrev pub auto_align : List ℕ → List ℕ → Result ℕ PeFault → Result ℕ Fault
auto_align path bytes (Ok n) = Ok n
auto_align path bytes (Err fault) = Err (pe_fault path bytes fault)

-- a volume that is a file stands at 8 bytes at least, where nothing is stated
abbrev pub unset_align : ℕ → ℕ
unset_align kind = if kind == EFI_SECTION_FIRMWARE_VOLUME_IMAGE then 8 else 1

-- the alignment of a section of this kind whose content is a file; `Auto` takes that of a PE file's
-- sections
abbrev pub content_align : ℕ → List ℕ → List ℕ → Align → Result ℕ Fault
content_align kind path bytes align.Unset = Ok (unset_align kind)
content_align kind path bytes align.Auto = auto_align path bytes (section_alignment_of bytes)
content_align kind path bytes (align.Bytes n) = Ok n

abbrev pub part_with : SectionPlan → ℕ → Shaped → Option Guid → Result Part Fault
part_with section align content guid =
    Ok
    (record {
      kind = section.kind;
      guid = guid;
      align = align;
      shift = content.shift;
      bytes =
          content.bytes;
    })

-- a section with its content
abbrev pub part_of : SectionPlan → ℕ → Shaped → Result Part Fault
part_of section align content =
    and_then (header_guid section.kind section.guid) (part_with section align content)

-- a file, of which a TE section holds the TE image
unfoldable pub file_part : SectionPlan → List ℕ → List ℕ → Result Part Fault
file_part section path bytes =
    and_then (file_shaped section.kind path bytes) (λ content.
    and_then (content_align section.kind path bytes section.align)
    (λ align. part_of section align content))

-- bytes that aren't a file's: for them `Auto` counts as nothing stated
unfoldable pub plain_part : SectionPlan → List ℕ → Result Part Fault
plain_part section bytes = part_of section (file_align section.align) (as_is bytes)

-- what is absent is left out where it is Optional
abbrev pub absent_part : SectionPlan → List ℕ → Result (Option Part) Fault
absent_part section path = if section.optional then Ok None
    else Err (section_absent section.at path)

abbrev pub some_part : Result Part Fault → Result (Option Part) Fault
some_part (Ok part) = Ok (Some part)
some_part (Err fault) = Err fault

abbrev pub got_part : SectionPlan → List ℕ → Answer Out → Result (Option Part) Fault
got_part section path (answer.Bytes bytes) = some_part (file_part section path bytes)
got_part section path answer.Absent = absent_part section path
got_part section path answer.TooLong = Err (too_long path)
got_part section path (answer.Field text) = Err impossible_answer
got_part section path (answer.Part outcome) = Err impossible_answer

abbrev pub expression_part : SectionPlan → List ℕ → List ℕ → Result (Option Part) Fault
expression_part section path bytes =
    if length bytes == 0 then absent_part section path else some_part (plain_part section bytes)

-- an Optional text without bytes is left out too
abbrev pub words_part : SectionPlan → List ℕ → Result (Option Part) Fault
words_part section text =
    if section.optional && length text == 0 then Ok None
    else some_part (plain_part section (words_bytes section.kind section.number text))

-- a section, unless it is left out
abbrev pub source_part : List ℕ → List ℕ → List (Pair Key Out) → SectionPlan → SectionSource
    → Result (Option Part) Fault
source_part depex expression given section (source.Tree path) =
    if is_path_of depex path then expression_part section path expression
    else and_then (given_file given path) (got_part section path)
source_part depex expression given section (source.Template text) = Err impossible_answer
source_part depex expression given section (source.Volume n) = Err impossible_answer
source_part depex expression given section (source.Words text) = words_part section text
source_part depex expression given section (source.Refused text) = Err impossible_answer

abbrev pub part_before : Option Part → Result (List Part) Fault → Result (List Part) Fault
part_before None parts = parts
part_before (Some part) parts = with_front (part ∷ []) parts

-- all sections that are there, or the first fault of one
unfoldable pub parts_from : List ℕ → List ℕ → List (Pair Key Out) → List SectionPlan
    → Result (List Part) Fault
parts_from depex expression given [] = Ok []
parts_from depex expression given (section ∷ sections) =
    and_then (source_part depex expression given section section.source)
    (λ part. part_before part (parts_from depex expression given sections))

-- a section has a GUID exactly where it is of the kind that has one
abbrev pub HasGuid : Part → Type 0
HasGuid part = is_some part.guid ≡ (part.kind == EFI_SECTION_FREEFORM_SUBTYPE_GUID)

abbrev pub MayHaveGuid : Option Part → Type 0
MayHaveGuid None = Unit {0}
MayHaveGuid (Some part) = HasGuid part
