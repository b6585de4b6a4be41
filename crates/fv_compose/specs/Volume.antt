-- A firmware volume: header, files in their places, pads between them, and free space.
use Rattle.std.specs.Prelude.{◌≡◌, ℕ, ◌+◌, ◌%◌, ◌==◌, ◌≤◌, ◌<◌, ◌&&◌, ◌||◌, Bool, true, not, nat_lt, nat_le, if◌then◌else◌, List, [], ◌∷◌, ◌++◌, length, drop, codes, decimal, Option, Some, None, is_some, Result, Err}
use Rattle.std.specs.List.{range_with_len, find}
use Rattle.build_base.specs.First.{first_holding, or_else, unless, and_then}
use Rattle.build_base.specs.Pieces.{image_of}
use Rattle.build_base.specs.Runs.{free_byte}
use Rattle.build_base.specs.declared.fault.Place.{Place}
use Rattle.build_base.specs.declared.fault.Fault.{Fault}
use Rattle.doc_types.specs.declared.image.FileImage.{FileImage}
use Rattle.doc_types.specs.declared.volume_head.VolumeHead.{VolumeHead}
use Rattle.ffs_sections.specs.File.{header_len}
use Rattle.fv_compose.specs.Place.{align_up}
use Rattle.fv_compose.specs.Header.{start_pieces, header_end}
use Rattle.fv_compose.specs.Files.{top_files, top_of, plain_files, files_pieces, end_of, top_start, top_pieces, pads_fault, top_pad_fault}
use Rattle.doc_types.specs.Volumes.{size_limit}
use Rattle.build_base.specs.FaultCodes.{TOP_FILE_TWICE, TOP_FILE_UNALIGNED, VOLUME_FULL}
pub use Rattle.doc_types.specs.Volumes.{SizeFits, HasShape}

-- a stated length is a whole number of blocks and at most 256M
abbrev pub size_fits : ℕ → Option ℕ → Bool
size_fits block None = true
size_fits block (Some size) = nat_le size size_limit && size % block == 0

abbrev pub head_fits : VolumeHead → Bool
head_fits head = size_fits head.block_size head.size

-- the end of the files but the top file
abbrev pub last_end : VolumeHead → List FileImage → ℕ
last_end plan files = end_of (header_end plan.name_guid) (plain_files files)

-- what is taken from an end on: with a top file its bytes from the next multiple of 8 on
abbrev pub taken_by : ℕ → Option FileImage → ℕ
taken_by at None = at
taken_by at (Some file) = align_up 8 at + length file.bytes

-- whether a length holds what is taken; the space before a top file is none or that of a pad file
abbrev pub holds : Bool → ℕ → ℕ → Bool
holds top taken size = nat_le taken size && (not top || size == taken || nat_le (taken + 24) size)

-- the same as a fact, of a whole number of blocks
pub record Fits (block : ℕ) (top : Bool) (taken size : ℕ) : Type 0 where
  pub room : holds top taken size ≡ true
  pub whole : size % block ≡ 0

-- the stated length where it holds all, or the least multiple of a block that does
unfoldable pub blocks_for : ℕ → Bool → ℕ → Option ℕ
blocks_for block top taken =
    find (λ size. holds top taken size && size % block == 0) (range_with_len 0 (size_limit + 1))

abbrev pub length_for : ℕ → Option ℕ → Bool → ℕ → Option ℕ
length_for block None top taken = blocks_for block top taken
length_for block (Some size) top taken = if holds top taken size then Some size else None

-- the length that is named as given where it doesn't hold all
abbrev pub given_size : ℕ → Option ℕ → ℕ
given_size block None = if block == 0 then 0 else size_limit
given_size block (Some size) = size

-- what is needed of it: space that a pad file doesn't fit into counts as one of 24 bytes
abbrev pub needed_of : Bool → ℕ → ℕ → ℕ
needed_of top taken given = if top && nat_lt taken given && nat_lt given (taken + 24)
    then taken + 24 else taken

abbrev pub full_fault : VolumeHead → Bool → ℕ → Fault
full_fault plan top taken =
    let given = given_size plan.block_size plan.size in
    record {
      code = VOLUME_FULL;
      place = plan.at;
      detail =
          decimal (needed_of top taken given) ++ codes " > " ++ decimal given;
    }

-- a fault with the volume's name
abbrev pub volume_fault : ℕ → Place → VolumeHead → Fault
volume_fault code place plan = record { code = code; place = place; detail = plan.name }

-- a top file after another
abbrev pub later_fault : VolumeHead → List FileImage → Option Fault
later_fault plan [] = None
later_fault plan (file ∷ files) = Some (volume_fault TOP_FILE_TWICE file.at plan)

abbrev pub twice_fault : VolumeHead → List FileImage → Option Fault
twice_fault plan files = later_fault plan (drop 1 (top_files files))

-- a start that is no multiple of 8, or at which the file's body isn't aligned
abbrev pub start_fault : VolumeHead → ℕ → FileImage → Option Fault
start_fault plan start file =
    first_holding
    ((
      not (start % 8 == 0 && (start + header_len file.bytes) % file.align == 0),
      volume_fault TOP_FILE_UNALIGNED file.at plan,
    ) ∷ [])

abbrev pub top_fault : VolumeHead → Option FileImage → ℕ → Option Fault
top_fault plan None size = None
top_fault plan (Some file) size = start_fault plan (top_start file size) file

-- the first fault of the places in a volume of this length
abbrev pub place_fault : VolumeHead → List FileImage → ℕ → Option Fault
place_fault plan files size =
    or_else (top_fault plan (top_of files) size)
    (or_else (pads_fault plan.ffs3 (header_end plan.name_guid) (plain_files files))
    (top_pad_fault plan.ffs3 (last_end plan files) (top_of files) size))

-- each byte is that of the header, the file or the pad that covers its place, or else the erase
-- byte
unfoldable pub volume_image : VolumeHead → List FileImage → ℕ → List ℕ
volume_image plan files size =
    image_of (free_byte plan.erase)
    (start_pieces plan size
    ++ (files_pieces plan.erase (header_end plan.name_guid) (plain_files files)
    ++ top_pieces plan.erase (last_end plan files) (top_of files) size)) size

abbrev pub with_length : VolumeHead → List FileImage → Option ℕ → Result (List ℕ) Fault
with_length plan files None =
    Err (full_fault plan (is_some (top_of files)) (taken_by (last_end plan files) (top_of files)))
with_length plan files (Some size) =
    unless (place_fault plan files size) (volume_image plan files size)

abbrev pub length_of : VolumeHead → List FileImage → Option ℕ
length_of plan files = length_for plan.block_size plan.size (is_some (top_of files))
    (taken_by (last_end plan files) (top_of files))

unfoldable pub volume_of : VolumeHead → List FileImage → Result (List ℕ) Fault
volume_of plan files = and_then (unless (twice_fault plan files) (length_of plan files))
    (with_length plan files)

-- a length that a volume may have
pub record IsLength (block : ℕ) (top : Bool) (taken size : ℕ) : Type 0 where
  pub room : holds top taken size ≡ true
  pub small : size ≤ size_limit
  pub block_some : 0 < block
  pub block_small : block ≤ size
