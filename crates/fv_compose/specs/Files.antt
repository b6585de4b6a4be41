-- The files of a volume in their places, and the pad files between them.
use Rattle.std.specs.Prelude.{◌≡◌, ℕ, ◌+◌, ◌-◌, ◌*◌, ◌^◌, ◌<◌, ◌≤◌, ◌==◌, ◌&&◌, Bool, true, not, nat_lt, if◌then◌else◌, List, [], ◌∷◌, ◌++◌, length, All, Option, Some, None}
use Rattle.std.specs.List.{filter, find}
use Rattle.std.specs.Str.{bytes_eq}
use Rattle.build_base.specs.First.{first_holding, or_else}
use Rattle.build_base.specs.Pieces.{Piece}
use Rattle.build_base.specs.Runs.{runs_bytes, kept_bytes, are_blank}
use Rattle.build_base.specs.declared.run.Run.{Run}
use Rattle.build_base.specs.declared.fault.Fault.{Fault}
use Rattle.doc_types.specs.declared.image.FileImage.{FileImage}
use Rattle.ffs_sections.specs.Alignment.{is_alignment, IsAlignment}
use Rattle.ffs_sections.specs.File.{header_len}
use Rattle.ffs_sections.specs.Sections.{fault_with_size}
use Rattle.ffs_sections.specs.Standard.{FILE_LIMIT}
use Rattle.fv_compose.specs.Pads.{pad_bytes}
use Rattle.fv_compose.specs.Place.{start_of, align_up}
use Rattle.build_base.specs.FaultCodes.{PAD_TOO_LONG}

-- EFI_FFS_VOLUME_TOP_FILE_GUID, 1BA0062E-C779-4582-8566-336AE8F78F09
abbrev pub top_name : List ℕ
top_name =
    0x2E ∷ 0x06 ∷ 0xA0 ∷ 0x1B ∷ 0x79 ∷ 0xC7 ∷ 0x82 ∷ 0x45 ∷ 0x85 ∷ 0x66 ∷ 0x33 ∷ 0x6A ∷ 0xE8 ∷ 0xF7
    ∷ 0x8F ∷ 0x09 ∷ []

-- whether a file is the volume top file
unfoldable pub is_top : FileImage → Bool
is_top file = bytes_eq file.guid.0 top_name

abbrev pub top_files : List FileImage → List FileImage
top_files files = filter is_top files

-- the top file
abbrev pub top_of : List FileImage → Option FileImage
top_of files = find is_top files

-- the files that stand one after another from the start on
unfoldable pub plain_files : List FileImage → List FileImage
plain_files files = filter (λ file. not (is_top file)) files

-- a file at its start, and between an end and it a pad file where there is space
unfoldable pub placed_pieces : ℕ → ℕ → ℕ → List ℕ → List Piece
placed_pieces erase at start bytes =
    if start == align_up 8 at then record { start = start; bytes = bytes } ∷ []
    else record { start = align_up 8 at; bytes = pad_bytes erase (start - align_up 8 at) }
    ∷ record { start = start; bytes = bytes } ∷ []

-- where a file starts after an end
abbrev pub file_start : ℕ → FileImage → ℕ
file_start at file = start_of at file.align (header_len file.bytes)

abbrev pub file_end : ℕ → FileImage → ℕ
file_end at file = file_start at file + length file.bytes

-- files one after another from an end on, each at the least place that it may start at
unfoldable pub files_pieces : ℕ → ℕ → List FileImage → List Piece
files_pieces erase at [] = []
files_pieces erase at (file ∷ files) =
    placed_pieces erase at (file_start at file) file.bytes
    ++ files_pieces erase (file_end at file) files

-- the end of the last of them
unfoldable pub end_of : ℕ → List FileImage → ℕ
end_of at [] = at
end_of at (file ∷ files) = end_of (file_end at file) files

-- the top file ends at the volume's last byte
abbrev pub top_start : FileImage → ℕ → ℕ
top_start file size = size - length file.bytes

abbrev pub top_pieces : ℕ → ℕ → Option FileImage → ℕ → List Piece
top_pieces erase at None size = []
top_pieces erase at (Some file) size = placed_pieces erase at (top_start file size) file.bytes

-- a pad between an end and a start that is too long for FFS2; in an FFS3 volume none is
unfoldable pub pad_fault : Bool → ℕ → ℕ → FileImage → Option Fault
pad_fault ffs3 at start file =
    first_holding
    ((
      not ffs3 && nat_lt FILE_LIMIT (start - align_up 8 at),
      fault_with_size PAD_TOO_LONG file.at (start - align_up 8 at),
    )
    ∷ [])

-- the first such pad between files one after another
unfoldable pub pads_fault : Bool → ℕ → List FileImage → Option Fault
pads_fault ffs3 at [] = None
pads_fault ffs3 at (file ∷ files) =
    or_else (pad_fault ffs3 at (file_start at file) file) (pads_fault ffs3 (file_end at file) files)

abbrev pub top_pad_fault : Bool → ℕ → Option FileImage → ℕ → Option Fault
top_pad_fault ffs3 at None size = None
top_pad_fault ffs3 at (Some file) size = pad_fault ffs3 at (top_start file size) file

-- an alignment that a file's header can state
unfoldable pub is_stated : FileImage → Bool
is_stated file = is_alignment file.align

unfoldable pub AreAligned : List FileImage → Type 0
AreAligned files = All (λ file. IsAlignment file.align) files

-- how many bytes files have
unfoldable pub bytes_in : List FileImage → ℕ
bytes_in [] = 0
bytes_in (file ∷ files) = length file.bytes + bytes_in files

abbrev pub top_bytes : Option FileImage → ℕ
top_bytes None = 0
top_bytes (Some file) = length file.bytes

-- The runs of a volume keep as bytes no more than its headers, its files, and a header for each pad
-- file; each fill is of erased flash.
pub record AreRunsOf (files : List FileImage) (runs : List Run) : Type 0 where
  pub kept : kept_bytes runs ≤ 116 + bytes_in files + 32 * (length files + 1)
  pub blank : are_blank runs ≡ true
  pub short : length (runs_bytes runs) < 2 ^ 64
