-- A flash device by the answers of its step (EDK II FDF specification, FD regions).
use Rattle.std.specs.Prelude.{ℕ, Bool, true, false, List, [], map, Option, Result, Ok, Err}
use Rattle.build_base.specs.declared.fault.Fault.{Fault}
use Rattle.build_base.specs.First.{and_then, all_ok}
use Rattle.step_engine.specs.declared.talk.Pair.{Pair}
use Rattle.doc_types.specs.declared.flash.DevicePlan.{DevicePlan}
use Rattle.doc_types.specs.declared.flash.Region.{Region}
use Rattle.doc_types.specs.declared.flash.RegionKind.{RegionKind}
use Rattle.doc_types.specs.declared.flash.RegionKind.TheVariants as kind
use Rattle.doc_types.specs.declared.volume.VolumePlan.{VolumePlan}
use Rattle.fd_regions.specs.Device.{device_of}
use Rattle.build_stages.specs.Stages.{impossible_answer}
use Rattle.build_stages.specs.Writing.{given_part}
use Rattle.step_pack.specs.Keys.{key_cmp}
use Rattle.step_pack.specs.declared.key.Key.{Key}
use Rattle.step_pack.specs.declared.key.Key.TheVariants as key
use Rattle.step_pack.specs.declared.out.Out.{Out}
use Rattle.step_pack.specs.declared.out.Out.TheVariants as out
use Rattle.volume_steps.specs.Asks.{is_vpd}
use Rattle.step_answers.specs.Volumes.{volume_step}
use Rattle.step_answers.specs.Contents.{file_absent, file_content, volume_content}
use Rattle.volume_steps.specs.declared.devices.Held.{Held}
use Rattle.volume_steps.specs.declared.devices.Held.TheVariants as held

-- the image of vital product data that its step gives
abbrev pub vpd_given : Out → Result (List ℕ) Fault
vpd_given (out.Vpd vpd) = Ok vpd.image
vpd_given _ = Err impossible_answer

abbrev pub vpd_content : List (Pair Key Out) → Result (List ℕ) Fault
vpd_content given = and_then (given_part key_cmp given key.Vpd) vpd_given

-- the bytes that a region holds
abbrev pub held_bytes : Held → List ℕ
held_bytes held.Nothing = []
held_bytes (held.Bytes text) = text.now
held_bytes (held.Image image) = image.now

-- what a region of a path holds, which may be the image of vital product data
abbrev pub tree_content : Bool → List (Pair Key Out) → List ℕ → Result (List ℕ) Fault
tree_content true given path = vpd_content given
tree_content false given path = file_content given (file_absent path) path

-- what a region holds; the path of the image of vital product data, where there is one, names what
-- its step gives
abbrev pub region_content : Option (List ℕ) → List VolumePlan → List (Pair Key Out) → RegionKind
    → Result (List ℕ) Fault
region_content vpd volumes given kind.Empty = Ok []
region_content vpd volumes given (kind.Bytes bytes) = Ok bytes
region_content vpd volumes given (kind.Tree path) = tree_content (is_vpd vpd path) given path
region_content vpd volumes given (kind.Volume n) = volume_content given (volume_step volumes n)

unfoldable pub contents_of : Option (List ℕ) → List VolumePlan → List (Pair Key Out) → List Region
    → Result (List (List ℕ)) Fault
contents_of vpd volumes given regions =
    all_ok (map (λ region. region_content vpd volumes given region.kind) regions)

-- the device of a plan, whose regions hold what the answers tell
unfoldable pub device_given : Option (List ℕ) → List VolumePlan → DevicePlan → List (Pair Key Out)
    → Result (List ℕ) Fault
device_given vpd volumes plan given =
    and_then (contents_of vpd volumes given plan.regions) (device_of plan)
