-- The sections of a file (UEFI PI specification, volume 1, TE images; volume 3, section 2.2.4; EDK
-- II FDF specification, FILE statements).
use Rattle.std.specs.Prelude.{ℕ, ◌-◌, ◌/◌, ◌%◌, ◌^◌, ◌==◌, List, [], ◌∷◌, ◌++◌, length, drop, map, max, codes, decimal, Option, Some, None, slice_get, Result, Ok, Err, if◌then◌else◌}
use Rattle.build_base.specs.declared.fault.Fault.{Fault}
use Rattle.build_base.specs.declared.guid.Guid.{Guid}
use Rattle.build_base.specs.FaultText.{fault_of}
use Rattle.build_base.specs.First.{and_then, all_ok}
use Rattle.doc_types.specs.Standard.{EFI_SECTION_TE, EFI_SECTION_FREEFORM_SUBTYPE_GUID}
use Rattle.doc_types.specs.declared.flash.FlashDoc.{FlashDoc}
use Rattle.doc_types.specs.declared.image.Part.{Part}
use Rattle.doc_types.specs.declared.volume.Align.{Align}
use Rattle.doc_types.specs.declared.volume.Align.TheVariants as align
use Rattle.doc_types.specs.declared.volume.SectionPlan.{SectionPlan}
use Rattle.doc_types.specs.declared.volume.SectionSource.{SectionSource}
use Rattle.doc_types.specs.declared.volume.SectionSource.TheVariants as source
use Rattle.doc_types.specs.declared.volume.VolumePlan.{VolumePlan}
use Rattle.te_images.specs.declared.fault.PeFault.{PeFault}
use Rattle.te_images.specs.declared.fault.PeFault.TheVariants as pe
use Rattle.te_images.specs.declared.te.TeHead.{TeHead}
use Rattle.te_images.specs.Pe.{section_alignment_of, file_alignment_of}
use Rattle.te_images.specs.Te.{te_of, te_bytes}
use Rattle.step_engine.specs.declared.talk.Pair.{Pair}
use Rattle.build_stages.specs.Stages.{impossible_answer}
use Rattle.step_pack.specs.declared.key.Key.{Key}
use Rattle.step_pack.specs.declared.out.Out.{Out}
use Rattle.step_answers.specs.Volumes.{volume_step}
use Rattle.step_answers.specs.Contents.{whole_file, section_absent, file_content, volume_content}
use Rattle.file_steps.specs.Words.{words_bytes}
use Rattle.file_steps.specs.declared.parts.Shaped.{Shaped}
use Rattle.build_base.specs.FaultCodes.{ALIGNMENTS_DIFFER, HEADER_TOO_LONG, NOT_PE, SUBSYSTEM_TOO_LARGE, TOO_MANY_SECTIONS, TRUNCATED}

-- `FileAlignment != SectionAlignment`
abbrev pub alignments_text : Result ℕ PeFault → Result ℕ PeFault → List ℕ
alignments_text (Ok file) (Ok section) = decimal file ++ codes " != " ++ decimal section
alignments_text _ _ = []

abbrev pub pe_code : PeFault → ℕ
pe_code pe.NotPe = NOT_PE
pe_code pe.Truncated = TRUNCATED
pe_code pe.AlignmentsDiffer = ALIGNMENTS_DIFFER
pe_code pe.TooManySections = TOO_MANY_SECTIONS
pe_code pe.HeaderTooLong = HEADER_TOO_LONG
pe_code pe.SubsystemTooLarge = SUBSYSTEM_TOO_LARGE

-- the alignments where they differ, else the length of the file
abbrev pub pe_detail : List ℕ → PeFault → List ℕ
pe_detail file pe.AlignmentsDiffer =
    alignments_text (file_alignment_of file) (section_alignment_of file)
pe_detail file _ = decimal (length file)

abbrev pub pe_fault : List ℕ → List ℕ → PeFault → Fault
pe_fault path file fault = fault_of (pe_code fault) (whole_file path) (pe_detail file fault)

abbrev pub as_is : List ℕ → Shaped
as_is bytes = record { shift = 0; bytes = bytes }

-- the TE image of a PE file: its places count from where they were in the file
abbrev pub te_content : List ℕ → TeHead → Shaped
te_content file head =
    record { shift = head.stripped - 40; bytes = te_bytes head ++ drop head.stripped file }

abbrev pub te_shaped : List ℕ → List ℕ → Result TeHead PeFault → Result Shaped Fault
te_shaped path file (Ok head) = Ok (te_content file head)
te_shaped path file (Err fault) = Err (pe_fault path file fault)

-- a TE section is made of a PE file, each other one is the file as it is
abbrev pub file_shaped : ℕ → List ℕ → List ℕ → Result Shaped Fault
file_shaped kind path bytes = if kind == EFI_SECTION_TE then te_shaped path bytes (te_of bytes)
    else Ok (as_is bytes)

-- what a section holds, by the answers; the other forms stand in rules alone
abbrev pub content_of : List VolumePlan → List (Pair Key Out) → SectionPlan → SectionSource
    → Result Shaped Fault
content_of volumes given section (source.Tree path) =
    and_then (file_content given (section_absent section.at path) path)
    (file_shaped section.kind path)
content_of volumes given section (source.Template text) = Err impossible_answer
content_of volumes given section (source.Volume n) =
    and_then (volume_content given (volume_step volumes n)) (λ bytes. Ok (as_is bytes))
content_of volumes given section (source.Words text) =
    Ok (as_is (words_bytes section.kind section.number text))
content_of volumes given section (source.Refused text) = Err impossible_answer

-- the alignment of a volume, whose exponent stands in bits 16 to 20 of its attributes
abbrev pub volume_align : Option VolumePlan → ℕ
volume_align None = 8
volume_align (Some plan) = max 8 (2 ^ (plan.head.attributes / 0x10000 % 0x20))

-- without a stated alignment the section of a volume has the volume's, and at least 8
abbrev pub unset_align : FlashDoc → SectionSource → ℕ
unset_align flash (source.Tree path) = 1
unset_align flash (source.Template text) = 1
unset_align flash (source.Volume n) = volume_align (slice_get flash.volumes n)
unset_align flash (source.Words text) = 1
unset_align flash (source.Refused text) = 1

abbrev pub section_align : FlashDoc → SectionSource → Align → ℕ
section_align flash from align.Unset = unset_align flash from
section_align flash from align.Auto = 1
section_align flash from (align.Bytes n) = n

abbrev pub some_guid : Option Guid → Result (Option Guid) Fault
some_guid (Some guid) = Ok (Some guid)
some_guid None = Err impossible_answer

abbrev pub without_guid : Option Guid → Result (Option Guid) Fault
without_guid (Some guid) = Err impossible_answer
without_guid None = Ok None

-- the GUID of a section's header, which a SUBTYPE_GUID section has, and no other; in a world it is
-- so
abbrev pub header_guid : ℕ → Option Guid → Result (Option Guid) Fault
header_guid kind guid = if kind == EFI_SECTION_FREEFORM_SUBTYPE_GUID then some_guid guid
    else without_guid guid

abbrev pub part_with : FlashDoc → SectionPlan → Shaped → Option Guid → Part
part_with flash section content guid = record {
  kind = section.kind;
  guid = guid;
  align = section_align flash section.source section.align;
  shift = content.shift;
  bytes = content.bytes;
}

-- a section with its content
unfoldable pub part_of : FlashDoc → List (Pair Key Out) → SectionPlan → Result Part Fault
part_of flash given section =
    and_then (content_of flash.volumes given section section.source) (λ content.
    and_then (header_guid section.kind section.guid)
    (λ guid. Ok (part_with flash section content guid)))

-- all sections, or the first fault of one
unfoldable pub parts_of : FlashDoc → List (Pair Key Out) → List SectionPlan
    → Result (List Part) Fault
parts_of flash given sections = all_ok (map (part_of flash given) sections)

-- whether the file of a section is there
abbrev pub source_checked : List (Pair Key Out) → SectionPlan → SectionSource
    → Result (Unit {0}) Fault
source_checked given section (source.Tree path) =
    and_then (file_content given (section_absent section.at path) path) (λ bytes. Ok tt)
source_checked given section (source.Template text) = Ok tt
source_checked given section (source.Volume n) = Ok tt
source_checked given section (source.Words text) = Ok tt
source_checked given section (source.Refused text) = Ok tt

-- the first fault of the files of sections
unfoldable pub files_checked : List (Pair Key Out) → List SectionPlan → Result (Unit {0}) Fault
files_checked given [] = Ok tt
files_checked given (section ∷ sections) =
    and_then (source_checked given section section.source)
    (λ checked. files_checked given sections)
