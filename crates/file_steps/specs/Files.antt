-- The file of a FILE statement, by the answers of its step (UEFI PI specification, volume 3,
-- section 3.2.3; EDK II FDF specification, FILE statements).
use Rattle.std.specs.Prelude.{ℕ, List, Option, Some, None, Result, Ok, Err}
use Rattle.build_base.specs.declared.fault.Fault.{Fault}
use Rattle.build_base.specs.declared.guid.Guid.{Guid}
use Rattle.build_base.specs.First.{and_then}
use Rattle.build_stages.specs.Stages.{impossible_answer}
use Rattle.step_engine.specs.declared.talk.Pair.{Pair}
use Rattle.doc_types.specs.declared.flash.FlashDoc.{FlashDoc}
use Rattle.doc_types.specs.declared.image.Body.{Body}
use Rattle.doc_types.specs.declared.image.Body.TheVariants as body
use Rattle.doc_types.specs.declared.image.ImagePlan.{ImagePlan}
use Rattle.doc_types.specs.declared.image.FileImage.{FileImage}
use Rattle.doc_types.specs.declared.volume.Align.{Align}
use Rattle.doc_types.specs.declared.volume.Align.TheVariants as align
use Rattle.doc_types.specs.declared.volume.FilePlan.{FilePlan}
use Rattle.doc_types.specs.declared.volume_head.VolumeHead.{VolumeHead}
use Rattle.ffs_sections.specs.File.{file_of}
use Rattle.step_pack.specs.declared.key.Key.{Key}
use Rattle.step_pack.specs.declared.out.Out.{Out}
use Rattle.step_answers.specs.Contents.{file_absent, file_content}
use Rattle.file_steps.specs.Parts.{files_checked, parts_of}

-- a file's own alignment; sections alone have that of their volume or of their content
abbrev pub file_align : Align → ℕ
file_align align.Unset = 1
file_align align.Auto = 1
file_align (align.Bytes n) = n

-- the file as it is, or the sections: each file has to be there before one is looked into
abbrev pub body_given : FlashDoc → FilePlan → Option (List ℕ) → List (Pair Key Out)
    → Result Body Fault
body_given flash plan (Some path) given =
    and_then (file_content given (file_absent path) path) (λ bytes. Ok (body.Whole bytes))
body_given flash plan None given =
    and_then (files_checked given plan.sections) (λ checked.
    and_then (parts_of flash given plan.sections) (λ parts. Ok (body.Sections parts)))

-- the name of a file; in a world a statement has one
abbrev pub file_name : Option Guid → Result Guid Fault
file_name (Some guid) = Ok guid
file_name None = Err impossible_answer

abbrev pub image_plan : VolumeHead → FilePlan → Guid → Body → ImagePlan
image_plan head plan name content = record {
  at = plan.at;
  file_type = plan.file_type;
  guid = name;
  fixed = plan.fixed;
  checksum = plan.checksum;
  align = file_align plan.align;
  erase = head.erase;
  ffs3 = head.ffs3;
  body = content;
}

-- the file of a statement in a volume with this head
unfoldable pub file_given : FlashDoc → VolumeHead → FilePlan → List (Pair Key Out)
    → Result FileImage Fault
file_given flash head plan given =
    and_then (body_given flash plan plan.whole given) (λ content.
    and_then (file_name plan.guid) (λ name. file_of (image_plan head plan name content)))
