-- Which images a build makes (EDK II Build specification, options -r and -i). That the volumes in
-- the regions of a wanted device are made with it, and that names are compared without regard to
-- case, is this project's own rule.
use Rattle.std.specs.Prelude.{ℕ, ◌+◌, ◌==◌, ◌||◌, Bool, true, false, if◌then◌else◌, List, [], ◌∷◌, length, map, replicate, slice_index_or, Option, Some, None, Result, Ok}
use Rattle.std.specs.List.{flat_map}
use Rattle.std.specs.Option.{is_some}
use Rattle.build_base.specs.FaultText.{fault_of}
use Rattle.build_base.specs.First.{and_then, or_else, or_fault}
use Rattle.build_base.specs.declared.fault.Fault.{Fault}
use Rattle.meta_lexer.specs.Faults.{first_fault}
use Rattle.doc_types.specs.declared.flash.DevicePlan.{DevicePlan}
use Rattle.doc_types.specs.declared.flash.FlashDoc.{FlashDoc}
use Rattle.doc_types.specs.declared.flash.Region.{Region}
use Rattle.doc_types.specs.declared.flash.RegionKind.{RegionKind}
use Rattle.doc_types.specs.declared.flash.RegionKind.TheVariants as kind
use Rattle.doc_types.specs.declared.volume.VolumePlan.{VolumePlan}
use Rattle.flash_document.specs.Names.{place_of}
use Rattle.volume_nesting.specs.Numbering.{has}
use Rattle.job_fields.specs.Readings.{images_in}
use Rattle.job_fields.specs.declared.job.Images.{Images}
use Rattle.step_answers.specs.Readers.{or_impossible}
use Rattle.output_steps.specs.declared.wanted.Wanted.{Wanted}
use Rattle.build_base.specs.FaultCodes.{IMAGE_UNKNOWN}

abbrev pub device_name : DevicePlan → List ℕ
device_name plan = plan.name

abbrev pub volume_name : VolumePlan → List ℕ
volume_name plan = plan.head.name

-- one of some names is this one, without regard to case
abbrev pub is_among : List (List ℕ) → List ℕ → Bool
is_among names name = is_some (place_of names name)

-- a name that no image has
abbrev pub image_unknown : FlashDoc → List (List ℕ) → List ℕ → Option Fault
image_unknown flash names name =
    if is_among names name then None else Some (fault_of IMAGE_UNKNOWN flash.at name)

-- the first device, and then the first volume, that a flash description doesn't have
abbrev pub images_unknown : FlashDoc → Images → Option Fault
images_unknown flash images =
    or_else (first_fault (image_unknown flash (map device_name flash.devices)) images.devices)
    (first_fault (image_unknown flash (map volume_name flash.volumes)) images.volumes)

abbrev pub kind_volume : RegionKind → List ℕ
kind_volume kind.Empty = []
kind_volume (kind.Bytes bytes) = []
kind_volume (kind.Tree path) = []
kind_volume (kind.Volume n) = n ∷ []

-- the volumes in regions
abbrev pub region_volumes : List Region → List ℕ
region_volumes regions = flat_map (λ region. kind_volume region.kind) regions

abbrev pub volumes_where : Bool → DevicePlan → List ℕ
volumes_where true plan = region_volumes plan.regions
volumes_where false plan = []

-- the volumes in regions of the devices of these names
abbrev pub held_volumes : List (List ℕ) → List DevicePlan → List ℕ
held_volumes names devices =
    flat_map (λ plan. volumes_where (is_among names (device_name plan)) plan) devices

abbrev pub device_marks : List (List ℕ) → List DevicePlan → List Bool
device_marks names devices = map (λ plan. is_among names (device_name plan)) devices

-- Volumes, whose numbers begin with this one, are marked where they have one of the names or where
-- they are among those that are held.
unfoldable pub volume_marks : List (List ℕ) → List ℕ → ℕ → List VolumePlan → List Bool
volume_marks names held n [] = []
volume_marks names held n (plan ∷ plans) =
    (is_among names (volume_name plan) || has held n) ∷ volume_marks names held (n + 1) plans

-- by the names of the devices and of the volumes that are wanted
abbrev pub wanted_by : FlashDoc → List (List ℕ) → List (List ℕ) → Wanted
wanted_by flash devices volumes = record {
  volumes = volume_marks volumes (held_volumes devices flash.devices) 0 flash.volumes;
  devices = device_marks devices flash.devices;
}

-- these images, or the fault of the first that there isn't
abbrev pub wanted_among : FlashDoc → Images → Result Wanted Fault
wanted_among flash images = or_fault (images_unknown flash images)
    (Ok (wanted_by flash images.devices images.volumes))

abbrev pub all_wanted : FlashDoc → Wanted
all_wanted flash = record {
  volumes = replicate (length flash.volumes) true;
  devices = replicate (length flash.devices) true;
}

-- those that a field of the words names, and all where it is empty
unfoldable pub wanted_of : FlashDoc → List ℕ → Result Wanted Fault
wanted_of flash text = if length text == 0 then Ok (all_wanted flash)
    else and_then (or_impossible (images_in text)) (wanted_among flash)

-- a volume or a device is made where its number is marked
abbrev pub is_marked : List Bool → ℕ → Bool
is_marked marks n = slice_index_or marks n false
