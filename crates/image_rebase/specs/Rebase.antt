-- A volume whose modules are moved to the addresses at which they lie when the volume lies at its
-- base. The rule is this project's own.
use Rattle.std.specs.Prelude.{◌≡◌, ℕ, true, is_some, unwrap_or, List, Result}
use Rattle.build_base.specs.First.{and_then}
use Rattle.build_base.specs.declared.fault.Fault.{Fault}
use Rattle.doc_types.specs.declared.image.FileImage.{FileImage}
use Rattle.doc_types.specs.declared.volume_head.VolumeHead.{VolumeHead}
use Rattle.fv_compose.specs.Places.{places_of}
use Rattle.fv_compose.specs.Volume.{volume_of}
use Rattle.image_rebase.specs.Files.{moved_files}

-- the head says where the volume lies, and that its modules are to be moved there
pub record IsBased (head : VolumeHead) : Type 0 where
  pub base : is_some head.base ≡ true
  pub force : head.force ≡ true

abbrev pub base_of : VolumeHead → ℕ
base_of head = unwrap_or head.base 0

-- the volume of the files, each of which is moved at its place
unfoldable pub moved_volume : VolumeHead → List FileImage → List ℕ → Result (List ℕ) Fault
moved_volume head files places =
    and_then (moved_files head.ffs3 (base_of head) files places) (volume_of head)

-- The volume whose files are moved, in the places that they have in the volume of the files as they
-- are; or the fault of that volume, or the first of a module.
unfoldable pub rebased_bytes : VolumeHead → List FileImage → Result (List ℕ) Fault
rebased_bytes head files = and_then (places_of head files) (moved_volume head files)
