-- What a volume that is written has, in the words of its reader (UEFI PI specification, volume 3,
-- sections 3.2.1 to 3.2.3).
use Rattle.std.specs.Prelude.{◌≡◌, ℕ, ◌+◌, ◌-◌, ◌^◌, ◌<◌, ◌==◌, ◌||◌, Bool, not, if◌then◌else◌, List, [], ◌∷◌, ◌++◌, length, map, replicate, bit_and, All, Option, Some, None, IfSome, unwrap_or, Result, Ok, Err}
use Rattle.std.specs.List.{filter, find}
use Rattle.build_base.specs.declared.guid.Guid.{Guid}
use Rattle.build_base.specs.declared.fault.Fault.{Fault}
use Rattle.doc_types.specs.Standard.{EFI_FV_FILETYPE_RAW, EFI_FV_FILETYPE_FFS_PAD}
use Rattle.doc_types.specs.declared.image.ImagePlan.{ImagePlan}
use Rattle.doc_types.specs.declared.image.FileImage.{FileImage}
use Rattle.doc_types.specs.declared.volume_head.VolumeHead.{VolumeHead}
use Rattle.ffs_sections.specs.File.{file_of, body_of, header_len}
use Rattle.fv_compose.specs.Place.{align_up}
use Rattle.fv_compose.specs.Header.{header_end}
use Rattle.fv_compose.specs.Files.{is_top, file_start, file_end, end_of, top_start}
use Rattle.fv_compose.specs.Volume.{HasShape, volume_of}
use Rattle.volume_reader.specs.declared.listed.Listed.{Listed}
use Rattle.volume_reader.specs.declared.listed.ListedSection.{ListedSection}
use Rattle.volume_reader.specs.declared.listed.VolumeList.{VolumeList}
use Rattle.volume_reader.specs.Sections.{sections_of}

-- a file, and the plan that it is made by
pub record Made : Type 0 where
  pub plan : ImagePlan
  pub file : FileImage

abbrev pub files_of : List Made → List FileImage
files_of made = map (λ one. one.file) made

-- It is the file of its plan, for a volume of this file system and erase polarity.
pub record IsMade (head : VolumeHead) (made : Made) : Type 0 where
  pub file : file_of made.plan ≡ Ok made.file
  pub name : length made.plan.guid.0 ≡ 16
  pub ffs3 : made.plan.ffs3 ≡ head.ffs3
  pub erase : (made.plan.erase == 0) ≡ (head.erase == 0)

-- these bytes are the image of a volume of this head, which has its shape, and of these files
pub record IsWritten (head : VolumeHead) (made : List Made) (bytes : List ℕ) : Type 0 where
  pub shape : HasShape head
  pub attributes : head.attributes < 2 ^ 32
  pub erased : bit_and head.attributes 0x800 ≡ (if head.erase == 0 then 0 else 0x800)
  pub name : IfSome head.name_guid (λ name. length name.0 ≡ 16)
  pub files : All (IsMade head) made
  pub image : volume_of head (files_of made) ≡ Ok bytes

-- the sections of a body that stands at a place; one that is no list of sections has none
abbrev pub body_sections : Bool → ℕ → Result (List ℕ) Fault → List ListedSection
body_sections ffs3 place (Ok body) = unwrap_or (sections_of ffs3 place body) []
body_sections ffs3 place (Err fault) = []

-- those of a file; files of raw data and pads have none
unfoldable pub made_sections : Bool → ℕ → Made → List ListedSection
made_sections ffs3 place made =
    if made.plan.file_type == EFI_FV_FILETYPE_RAW || made.plan.file_type == EFI_FV_FILETYPE_FFS_PAD
    then []
    else body_sections ffs3 (place + header_len made.file.bytes) (body_of made.plan made.plan.body)

-- a file of a plan, at a place
unfoldable pub made_row : Bool → ℕ → Made → Listed
made_row ffs3 place made = record {
  place = place;
  guid = made.plan.guid;
  file_type = made.plan.file_type;
  size = length made.file.bytes;
  sections = made_sections ffs3 place made;
}

-- a pad file, whose name is of ones
unfoldable pub pad_row : ℕ → ℕ → Listed
pad_row place size =
    record {
      place = place;
      guid = record { 0 = replicate 16 0xFF };
      file_type =
          EFI_FV_FILETYPE_FFS_PAD;
      size = size;
      sections = [];
    }

-- a file at its start, and between an end and it a pad file where there is space
unfoldable pub placed_rows : Bool → ℕ → ℕ → Made → List Listed
placed_rows ffs3 at start made =
    if start == align_up 8 at then made_row ffs3 start made ∷ []
    else pad_row (align_up 8 at) (start - align_up 8 at) ∷ made_row ffs3 start made ∷ []

-- files one after another from an end on
unfoldable pub files_rows : Bool → ℕ → List Made → List Listed
files_rows ffs3 at [] = []
files_rows ffs3 at (made ∷ more) = placed_rows ffs3 at (file_start at made.file) made
    ++ files_rows ffs3 (file_end at made.file) more

-- the pad file that holds the extended header
abbrev pub extended_rows : Option Guid → List Listed
extended_rows None = []
extended_rows (Some name) = pad_row 0x48 0x2C ∷ []

-- the files but the top file, and the top file
unfoldable pub plain_made : List Made → List Made
plain_made made = filter (λ one. not (is_top one.file)) made

abbrev pub top_made : List Made → Option Made
top_made made = find (λ one. is_top one.file) made

abbrev pub top_rows : Bool → ℕ → ℕ → Option Made → List Listed
top_rows ffs3 at size None = []
top_rows ffs3 at size (Some made) = placed_rows ffs3 at (top_start made.file size) made

-- where the files end but the top file
abbrev pub plain_end : VolumeHead → List Made → ℕ
plain_end head made = end_of (header_end head.name_guid) (files_of (plain_made made))

-- the files and pad files of a volume of this length, in the order of their places
unfoldable pub written_rows : VolumeHead → List Made → ℕ → List Listed
written_rows head made size =
    extended_rows head.name_guid
    ++ (files_rows head.ffs3 (header_end head.name_guid) (plain_made made)
    ++ top_rows head.ffs3 (plain_end head made) size (top_made made))

-- what is free behind the last file, from the next multiple of 8 on; behind a top file nothing
abbrev pub free_behind : ℕ → ℕ → Option Made → ℕ
free_behind at size None = size - align_up 8 at
free_behind at size (Some made) = 0

-- what is read of a volume of this length
unfoldable pub written_list : VolumeHead → List Made → ℕ → VolumeList
written_list head made size = record {
  length = size;
  ffs3 = head.ffs3;
  files = written_rows head made size;
  free = free_behind (plain_end head made) size (top_made made);
}
