-- What the steps of volumes and devices ask, stage by stage, and what comes of the answers; the rule
-- is this project's own.
use Rattle.step_answers.specs.Volumes.{item_of_number, volume_at, fits_u16}
use Rattle.std.specs.Prelude.{ℕ, Bool, true, false, List, [], ◌∷◌, length, codes, Option, Some, None, Result, Ok, slice_get}
use Rattle.build_base.specs.First.{and_then}
use Rattle.build_base.specs.declared.fault.Fault.{Fault}
use Rattle.step_engine.specs.declared.talk.Ask.{Ask}
use Rattle.step_engine.specs.declared.talk.Ask.TheVariants as ask
use Rattle.step_engine.specs.declared.talk.Pair.{Pair}
use Rattle.doc_types.specs.declared.flash.DevicePlan.{DevicePlan}
use Rattle.doc_types.specs.declared.flash.FlashDoc.{FlashDoc}
use Rattle.doc_types.specs.declared.platform.PlatformDoc.{PlatformDoc}
use Rattle.doc_types.specs.declared.volume.VolumePlan.{VolumePlan}
use Rattle.build_stages.specs.Stages.{end, stage}
use Rattle.build_stages.specs.Writing.{attempt, when, given_field}
use Rattle.job_fields.specs.Fields.{TARGET, TAG}
use Rattle.step_pack.specs.declared.key.Key.{Key}
use Rattle.step_pack.specs.declared.key.Key.TheVariants as key
use Rattle.step_pack.specs.declared.out.Out.{Out}
use Rattle.step_pack.specs.declared.out.Out.TheVariants as out
use Rattle.volume_steps.specs.Asks.{item_asks, region_asks, regions_below}
use Rattle.volume_steps.specs.Volumes.{volume_given}
use Rattle.volume_steps.specs.Based.{based_given}
use Rattle.volume_steps.specs.Devices.{device_given}
use Rattle.step_answers.specs.Folders.{output_folder, path_below}
use Rattle.step_answers.specs.Readers.{EdkStages, given_as, platform_in, flash_in}
use Rattle.step_answers.specs.VpdLines.{has_vpd}

abbrev pub device_at : FlashDoc → ℕ → Result DevicePlan Fault
device_at flash d = item_of_number flash (slice_get flash.devices d)

-- the image of a volume as it stands, or moved to its base
abbrev pub image_by : Bool → ℕ → VolumePlan → List (Pair Key Out) → Result (List ℕ) Fault
image_by true v plan given = based_given v plan given
image_by false v plan given = volume_given v plan given

-- the files of a volume, and then the volume
abbrev pub plan_stages : Bool → ℕ → VolumePlan → EdkStages
plan_stages moved v plan =
    when (fits_u16 (length plan.items))
    (stage (item_asks v plan.items)
    (λ given. end (given_as out.Volume (image_by moved v plan given))))

abbrev pub volume_from : Bool → ℕ → List (Pair Key Out) → EdkStages
volume_from moved v given =
    attempt (flash_in given)
    (λ flash. attempt (volume_at flash v) (λ plan. plan_stages moved v plan))

abbrev pub volume_stages : Bool → ℕ → EdkStages
volume_stages moved v = stage (ask.Part key.Flash ∷ []) (volume_from moved v)

-- the path of the image of vital product data, where the platform has a line of it
abbrev pub vpd_where : Bool → Result (List ℕ) Fault → Result (Option (List ℕ)) Fault
vpd_where true folder =
    and_then folder (λ below. and_then (path_below below (codes "FV/VPD.bin"))
    (λ path. Ok (Some path)))
vpd_where false folder = Ok None

abbrev pub vpd_path : PlatformDoc → List ℕ → List ℕ → Result (Option (List ℕ)) Fault
vpd_path platform target tag =
    vpd_where (has_vpd platform) (output_folder platform.output target tag)

-- by the job's target and tag
abbrev pub vpd_in : PlatformDoc → List (Pair Key Out) → Result (Option (List ℕ)) Fault
vpd_in platform given =
    and_then (given_field given TARGET) (λ target.
    and_then (given_field given TAG) (vpd_path platform target))

-- what the regions of a device hold, and then the device
abbrev pub regions_stages : List VolumePlan → Option (List ℕ) → DevicePlan → EdkStages
regions_stages volumes vpd plan =
    when (regions_below plan.regions)
    (stage (region_asks volumes vpd plan.regions)
    (λ given. end (given_as out.Device (device_given vpd volumes plan given))))

-- the flash description, the platform, the target and the tag
abbrev pub device_asks : List (Ask Key)
device_asks = ask.Part key.Flash ∷ ask.Part key.Platform ∷ ask.Field TARGET ∷ ask.Field TAG ∷ []

abbrev pub device_from : ℕ → List (Pair Key Out) → EdkStages
device_from d given =
    attempt (flash_in given) (λ flash.
    attempt (platform_in given) (λ platform.
    attempt (vpd_in platform given) (λ vpd.
    attempt (device_at flash d) (λ plan. regions_stages flash.volumes vpd plan))))

abbrev pub device_stages : ℕ → EdkStages
device_stages d = stage device_asks (device_from d)
