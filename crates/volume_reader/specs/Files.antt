-- The files of a volume that is read (UEFI PI specification, volume 3, section 3.2.3).
use Rattle.std.specs.Prelude.{◌≤◌, ℕ, ◌+◌, ◌/◌, ◌%◌, ◌==◌, ◌&&◌, ◌||◌, Bool, nat_le, if◌then◌else◌, List, [], length, take, drop, slice_index, unwrap_or}
use Rattle.byteorder.specs.Endian.{little_from}
use Rattle.doc_types.specs.Standard.{EFI_FV_FILETYPE_RAW, EFI_FV_FILETYPE_FFS_PAD}
use Rattle.ffs_sections.specs.Standard.{FFS_ATTRIB_CHECKSUM, FFS_FIXED_CHECKSUM}
use Rattle.ffs_sections.specs.Sums.{zero_byte, header_sum}
use Rattle.ffs_sections.specs.File.{header_len, state_of}
use Rattle.volume_reader.specs.declared.listed.Listed.{Listed}
use Rattle.volume_reader.specs.declared.listed.ListedSection.{ListedSection}
use Rattle.volume_reader.specs.Sections.{sections_of}

-- Fields of the header that some bytes begin with. Numbers are little-endian, and what lies past
-- the end reads as 0.

unfoldable pub file_name : List ℕ → List ℕ
file_name bytes = take 16 bytes

unfoldable pub header_check : List ℕ → ℕ
header_check bytes = slice_index bytes 0x10

unfoldable pub file_check : List ℕ → ℕ
file_check bytes = slice_index bytes 0x11

unfoldable pub file_type : List ℕ → ℕ
file_type bytes = slice_index bytes 0x12

unfoldable pub file_attributes : List ℕ → ℕ
file_attributes bytes = slice_index bytes 0x13

unfoldable pub file_state : List ℕ → ℕ
file_state bytes = slice_index bytes 0x17

-- the size, which in the header of a large file stands behind the state
unfoldable pub stated_size : List ℕ → ℕ
stated_size bytes = if header_len bytes == 32 then little_from 0x18 8 bytes
    else little_from 0x14 3 bytes

unfoldable pub body_in : List ℕ → List ℕ
body_in bytes = drop (header_len bytes) (take (stated_size bytes) bytes)

-- The header lies within the bytes; that of a large file stands in FFS3 alone.
unfoldable pub has_header : Bool → List ℕ → Bool
has_header ffs3 bytes = nat_le (header_len bytes) (length bytes) && (ffs3 || header_len bytes == 24)

-- It has its own checksum, and the state of a whole file under the erase polarity.
unfoldable pub has_state : ℕ → List ℕ → Bool
has_state erase bytes = header_check bytes == header_sum (take (header_len bytes) bytes)
    && file_state bytes == state_of erase

-- The size is at least the header's, and within the bytes.
unfoldable pub has_size : List ℕ → Bool
has_size bytes = nat_le (header_len bytes) (stated_size bytes)
    && nat_le (stated_size bytes) (length bytes)

-- The file checksum is that of the body under the attribute CHECKSUM, and else the fixed one.
unfoldable pub has_check : List ℕ → Bool
has_check bytes = file_check bytes ==
    (if file_attributes bytes / FFS_ATTRIB_CHECKSUM % 2 == 1 then zero_byte (body_in bytes)
    else FFS_FIXED_CHECKSUM)

-- whether these bytes begin with a file, in a volume of FFS3 or of FFS2 under this erase polarity
unfoldable pub is_file : Bool → ℕ → List ℕ → Bool
is_file ffs3 erase bytes = has_header ffs3 bytes && has_state erase bytes && has_size bytes
    && has_check bytes

-- a header and a body lie within these bytes
pub record HasBody (bytes : List ℕ) : Type 0 where
  pub long : 24 ≤ length bytes
  pub head : 24 ≤ header_len bytes
  pub least : header_len bytes ≤ stated_size bytes
  pub inside : stated_size bytes ≤ length bytes

-- the sections of the file that stands at a place; files of raw data and pads have none, nor has a
-- body that is no list of sections
unfoldable pub file_sections : Bool → ℕ → List ℕ → List ListedSection
file_sections ffs3 place bytes =
    if file_type bytes == EFI_FV_FILETYPE_RAW || file_type bytes == EFI_FV_FILETYPE_FFS_PAD then []
    else unwrap_or (sections_of ffs3 (place + header_len bytes) (body_in bytes)) []

-- the file that stands at a place
unfoldable pub listed_file : Bool → ℕ → List ℕ → Listed
listed_file ffs3 place bytes = record {
  place = place;
  guid = record { 0 = file_name bytes };
  file_type = file_type bytes;
  size = stated_size bytes;
  sections = file_sections ffs3 place bytes;
}
