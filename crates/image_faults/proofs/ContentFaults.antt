-- Faults of the contents of files and volumes have names.
use Rattle.std.proofs.Common.{Bool, Err, List, None, Ok, Option, Result, Some, false, if◌then◌else◌, is_some, true, ℕ, ◌==◌, ◌≡◌}
use Rattle.std.specs.List.{list_all}
use Rattle.build_base.specs.First.{and_then}
use Rattle.build_base.specs.declared.fault.Place.{Place}
use Rattle.build_base.specs.declared.guid.Guid.{Guid}
use Rattle.named_faults.proofs.NamedLemmas.{if_fails, then_fails, both_fail}
use Rattle.named_faults.specs.Named.{IsNameCode, FailsByName, HasName}
use Rattle.named_faults.proofs.CodeLemmas as code
use Rattle.doc_types.specs.Standard.{EFI_SECTION_FREEFORM_SUBTYPE_GUID, EFI_SECTION_TE}
use Rattle.doc_types.specs.declared.flash.FlashDoc.{FlashDoc}
use Rattle.doc_types.specs.declared.image.FileImage.{FileImage}
use Rattle.doc_types.specs.declared.volume.SectionPlan.{SectionPlan}
use Rattle.doc_types.specs.declared.volume_head.VolumeHead.{VolumeHead}
use Rattle.te_images.specs.Te.{te_of}
use Rattle.te_images.specs.declared.fault.PeFault.{PeFault}
use Rattle.te_images.specs.declared.fault.PeFault.TheVariants as pe
use Rattle.te_images.specs.declared.te.TeHead.{TeHead}
use Rattle.fv_compose.specs.Files.{is_stated}
use Rattle.fv_compose.specs.Volume.{HasShape, head_fits, volume_of}
use Rattle.build_stages.specs.Stages.{impossible_answer}
use Rattle.step_answers.specs.Contents.{file_absent, section_absent}
use Rattle.file_steps.specs.Files.{file_name}
use Rattle.file_steps.specs.Parts.{as_is, file_shaped, header_guid, part_with, pe_code, pe_fault, some_guid, te_shaped, without_guid}
use Rattle.volume_steps.specs.Volumes.{composed_volume}
use Rattle.file_steps.specs.declared.parts.Shaped.{Shaped}
use Rattle.image_faults.proofs.VolumeFaults.{head_sure, volume_fails}
use Rattle.image_faults.specs.Served.{GuidStands}

pe_named : (fault : PeFault) → IsNameCode (pe_code fault)
pe_named pe.NotPe = code.not_pe_named
pe_named pe.Truncated = code.truncated_named
pe_named pe.AlignmentsDiffer = code.alignments_differ_named
pe_named pe.TooManySections = code.too_many_sections_named
pe_named pe.HeaderTooLong = code.header_too_long_named
pe_named pe.SubsystemTooLarge = code.subsystem_too_large_named

pub pe_fault_named : (path file : List ℕ) (fault : PeFault) → HasName (pe_fault path file fault)
pe_fault_named path file fault = pe_named fault

-- Files that are absent or too long.

pub file_absent_named : (path : List ℕ) → HasName (file_absent path)
file_absent_named path = code.file_absent_named

pub section_absent_named : (at : Place) (path : List ℕ) → HasName (section_absent at path)
section_absent_named at path = code.section_absent_named

-- Sections.

te_fails : (path file : List ℕ) (head : Result TeHead PeFault) → FailsByName (te_shaped path file head)
te_fails path file (Ok head) = tt
te_fails path file (Err fault) = pe_fault_named path file fault

pub shaped_fails : (kind : ℕ) (path bytes : List ℕ) → FailsByName (file_shaped kind path bytes)
shaped_fails kind path bytes = if_fails (kind == EFI_SECTION_TE) (te_shaped path bytes (te_of bytes)) (Ok (as_is bytes)) (te_fails path bytes (te_of bytes)) tt

guid_by : (has : Bool) (guid : Option Guid) → is_some guid ≡ has → FailsByName (if has then some_guid guid else without_guid guid)
guid_by true (Some guid) e = tt
guid_by true None e = absurd cc
guid_by false (Some guid) e = absurd cc
guid_by false None e = tt

pub guid_fails : (section : SectionPlan) → GuidStands section → FailsByName (header_guid section.kind section.guid)
guid_fails section e = guid_by (section.kind == EFI_SECTION_FREEFORM_SUBTYPE_GUID) section.guid e

pub stated_part_fails : (flash : FlashDoc) (section : SectionPlan) (content : Shaped) → GuidStands section
    → FailsByName (and_then (header_guid section.kind section.guid) (λ guid. Ok (part_with flash section content guid)))
stated_part_fails flash section content e =
    then_fails (header_guid section.kind section.guid) (λ guid. Ok (part_with flash section content guid)) (guid_fails section e) (λ guid k. tt)

-- Files and volumes.

pub name_fails : (guid : Option Guid) → is_some guid ≡ true → FailsByName (file_name guid)
name_fails (Some guid) e = tt
name_fails None e = absurd cc

pub composed_fails : (head : VolumeHead) (files : List FileImage) → HasShape head → list_all is_stated files ≡ true → FailsByName (composed_volume head files)
unfolding composed_volume
composed_fails head files h s = both_fail (head_fits head) (list_all is_stated files) (volume_of head files) (Err impossible_answer) (head_sure head h) s (volume_fails head files)
