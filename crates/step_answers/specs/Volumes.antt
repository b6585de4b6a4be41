-- The volumes of a flash description by their numbers, and the steps that make them; the rule is this
-- project's own.
use Rattle.std.specs.Prelude.{ℕ, ◌&&◌, Bool, nat_lt, List, [], Option, Some, None, is_some, slice_get, if◌then◌else◌, Result, Ok, Err}
use Rattle.doc_types.specs.declared.volume.VolumePlan.{VolumePlan}
use Rattle.doc_types.specs.declared.volume_head.VolumeHead.{VolumeHead}
use Rattle.step_pack.specs.declared.key.Key.{Key}
use Rattle.step_pack.specs.declared.key.Key.TheVariants as key
use Rattle.build_base.specs.FaultText.{fault_of}
use Rattle.build_base.specs.declared.fault.Fault.{Fault}
use Rattle.doc_types.specs.declared.flash.FlashDoc.{FlashDoc}
use Rattle.build_base.specs.FaultCodes.{VOLUME_UNKNOWN}

-- a volume is moved to its base where it has one and is to be
abbrev pub is_based : VolumeHead → Bool
is_based head = is_some head.base && head.force

-- the step of a volume of a number
abbrev pub volume_key : ℕ → VolumePlan → Key
volume_key n plan = if is_based plan.head then key.Based n else key.Volume n

-- there may be none of the number
abbrev pub step_by : ℕ → Option VolumePlan → Key
step_by n None = key.Volume n
step_by n (Some plan) = volume_key n plan

abbrev pub volume_step : List VolumePlan → ℕ → Key
volume_step volumes n = step_by n (slice_get volumes n)

-- a volume has at most 65,535 items, and a flash description as many volumes
abbrev pub fits_u16 : ℕ → Bool
fits_u16 count = nat_lt count 65536

-- what a number names, or the fault that it names nothing
abbrev pub item_of_number : {A : Type 0} → FlashDoc → Option A → Result A Fault
item_of_number flash (Some x) = Ok x
item_of_number flash None = Err (fault_of VOLUME_UNKNOWN flash.at [])

abbrev pub volume_at : FlashDoc → ℕ → Result VolumePlan Fault
volume_at flash v = item_of_number flash (slice_get flash.volumes v)
