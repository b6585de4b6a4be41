-- A volume by the answers of its step (UEFI PI specification, volume 3, section 3).
use Rattle.std.specs.Prelude.{ℕ, ◌&&◌, List, map, Result, Ok, Err, if◌then◌else◌}
use Rattle.std.specs.List.{list_all}
use Rattle.build_base.specs.declared.fault.Fault.{Fault}
use Rattle.build_base.specs.First.{and_then, all_ok}
use Rattle.step_engine.specs.declared.talk.Pair.{Pair}
use Rattle.doc_types.specs.declared.image.FileImage.{FileImage}
use Rattle.doc_types.specs.declared.volume.Item.{Item}
use Rattle.doc_types.specs.declared.volume.VolumePlan.{VolumePlan}
use Rattle.doc_types.specs.declared.volume_head.VolumeHead.{VolumeHead}
use Rattle.fv_compose.specs.Files.{is_stated}
use Rattle.fv_compose.specs.Volume.{head_fits, volume_of}
use Rattle.build_stages.specs.Stages.{impossible_answer}
use Rattle.build_stages.specs.Writing.{given_part}
use Rattle.step_pack.specs.Keys.{key_cmp}
use Rattle.step_pack.specs.declared.key.Key.{Key}
use Rattle.step_pack.specs.declared.key.Key.TheVariants as key
use Rattle.step_pack.specs.declared.out.Out.{Out}
use Rattle.step_pack.specs.declared.out.Out.TheVariants as out
use Rattle.volume_steps.specs.Asks.{file_order}

-- the file that the step of an item gives
abbrev pub file_in : Out → Result FileImage Fault
file_in (out.File file) = Ok file
file_in _ = Err impossible_answer

-- that of an item of a volume of a number
abbrev pub image_of : List (Pair Key Out) → ℕ → ℕ → Result FileImage Fault
image_of given v i = and_then (given_part key_cmp given (key.File v i)) file_in

-- the files of a volume in their order
unfoldable pub images_of : List (Pair Key Out) → ℕ → List Item → Result (List FileImage) Fault
images_of given v items = all_ok (map (image_of given v) (file_order items))

-- what can be made of files of their shape alone
unfoldable pub composed_volume : VolumeHead → List FileImage → Result (List ℕ) Fault
composed_volume head files =
    if head_fits head && list_all is_stated files then volume_of head files
    else Err impossible_answer

-- the volume of a number and a plan
unfoldable pub volume_given : ℕ → VolumePlan → List (Pair Key Out) → Result (List ℕ) Fault
volume_given v plan given = and_then (images_of given v plan.items) (composed_volume plan.head)
