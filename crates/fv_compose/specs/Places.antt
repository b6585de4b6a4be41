-- Where each file of a volume stands (UEFI PI specification, volume 3, section 3.2.3): the places
-- of its image, told by themselves.
use Rattle.std.specs.Prelude.{ℕ, if◌then◌else◌, List, [], ◌∷◌, Option, Some, None, is_some, Result, Err}
use Rattle.build_base.specs.First.{unless, and_then}
use Rattle.build_base.specs.declared.fault.Fault.{Fault}
use Rattle.doc_types.specs.declared.image.FileImage.{FileImage}
use Rattle.doc_types.specs.declared.volume_head.VolumeHead.{VolumeHead}
use Rattle.fv_compose.specs.Header.{header_end}
use Rattle.fv_compose.specs.Files.{is_top, top_of, top_start, file_start}
use Rattle.fv_compose.specs.Turns.{next_end}
use Rattle.fv_compose.specs.Volume.{last_end, taken_by, full_fault, place_fault, twice_fault, length_of}

-- where a file stands that comes after an end, in a volume of this length: the top file ends at the
-- volume's last byte
abbrev pub placed_at : ℕ → ℕ → FileImage → ℕ
placed_at size at file = if is_top file then top_start file size else file_start at file

-- where each of the files stands that come after an end, in their order
unfoldable pub placed_from : ℕ → ℕ → List FileImage → List ℕ
placed_from size at [] = []
placed_from size at (file ∷ files) = placed_at size at file
    ∷ placed_from size (next_end at file) files

abbrev pub places_in : VolumeHead → List FileImage → ℕ → List ℕ
places_in plan files size = placed_from size (header_end plan.name_guid) files

abbrev pub places_with : VolumeHead → List FileImage → Option ℕ → Result (List ℕ) Fault
places_with plan files None =
    Err (full_fault plan (is_some (top_of files)) (taken_by (last_end plan files) (top_of files)))
places_with plan files (Some size) =
    unless (place_fault plan files size) (places_in plan files size)

-- the places of all files, or the fault of the volume
unfoldable pub places_of : VolumeHead → List FileImage → Result (List ℕ) Fault
places_of plan files = and_then (unless (twice_fault plan files) (length_of plan files))
    (places_with plan files)
