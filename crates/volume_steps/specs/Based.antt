-- A volume that is moved to its base, by the answers of its step (UEFI PI specification, volume 3,
-- section 3; how its modules are moved is this project's own rule).
use Rattle.std.specs.Prelude.{ℕ, ◌&&◌, List, Result, Err, if◌then◌else◌}
use Rattle.std.specs.List.{list_all}
use Rattle.build_base.specs.First.{and_then}
use Rattle.build_base.specs.declared.fault.Fault.{Fault}
use Rattle.build_stages.specs.Stages.{impossible_answer}
use Rattle.doc_types.specs.declared.image.FileImage.{FileImage}
use Rattle.doc_types.specs.declared.volume.VolumePlan.{VolumePlan}
use Rattle.doc_types.specs.declared.volume_head.VolumeHead.{VolumeHead}
use Rattle.fv_compose.specs.Files.{is_stated}
use Rattle.fv_compose.specs.Volume.{head_fits}
use Rattle.image_rebase.specs.Rebase.{rebased_bytes}
use Rattle.step_answers.specs.Volumes.{is_based}
use Rattle.volume_steps.specs.Volumes.{images_of, volume_given}
use Rattle.step_engine.specs.declared.talk.Pair.{Pair}
use Rattle.step_pack.specs.declared.key.Key.{Key}
use Rattle.step_pack.specs.declared.out.Out.{Out}

-- what can be made of files of their shape alone
unfoldable pub rebased_image : VolumeHead → List FileImage → Result (List ℕ) Fault
rebased_image head files =
    if head_fits head && list_all is_stated files then rebased_bytes head files
    else Err impossible_answer

-- the volume of a number and a plan, moved to its base where it is to be
unfoldable pub based_given : ℕ → VolumePlan → List (Pair Key Out) → Result (List ℕ) Fault
based_given v plan given =
    if is_based plan.head then and_then (images_of given v plan.items) (rebased_image plan.head)
    else volume_given v plan given
