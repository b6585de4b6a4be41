-- The header of a firmware volume that is read (UEFI PI specification, volume 3, section 3.2.1).
use Rattle.std.specs.Prelude.{ℕ, ◌+◌, ◌-◌, ◌*◌, ◌/◌, ◌%◌, ◌==◌, ◌&&◌, ◌||◌, Bool, not, nat_le, List, length, take, drop, slice_index, codes, Option, true, false}
use Rattle.std.specs.List.{range_with_len, list_any, find, sum_by}
use Rattle.std.specs.Str.{bytes_eq}
use Rattle.byteorder.specs.Endian.{little_from}
use Rattle.fv_compose.specs.Header.{words_sum, file_system}

-- Its fields. Numbers are little-endian, and what lies past the end reads as 0.

unfoldable pub file_system_guid : List ℕ → List ℕ
file_system_guid bytes = take 16 (drop 0x10 bytes)

unfoldable pub fv_length : List ℕ → ℕ
fv_length bytes = little_from 0x20 8 bytes

unfoldable pub signature : List ℕ → List ℕ
signature bytes = take 4 (drop 0x28 bytes)

unfoldable pub attributes : List ℕ → ℕ
attributes bytes = little_from 0x2C 4 bytes

unfoldable pub header_length : List ℕ → ℕ
header_length bytes = little_from 0x30 2 bytes

unfoldable pub revision : List ℕ → ℕ
revision bytes = slice_index bytes 0x37

-- the block map: entries of eight bytes from 0x38 to the header's end
abbrev pub block_entries : List ℕ → ℕ
block_entries bytes = (header_length bytes - 0x38) / 8

-- the number of blocks in an entry, and the length of each
unfoldable pub num_blocks : List ℕ → ℕ → ℕ
num_blocks bytes k = little_from (0x38 + 8 * k) 4 bytes

unfoldable pub block_length : List ℕ → ℕ → ℕ
block_length bytes k = little_from (0x3C + 8 * k) 4 bytes

-- the entry (0, 0)
unfoldable pub is_map_end : List ℕ → ℕ → Bool
is_map_end bytes k = num_blocks bytes k == 0 && block_length bytes k == 0

unfoldable pub block_bytes : List ℕ → ℕ → ℕ
block_bytes bytes k = num_blocks bytes k * block_length bytes k

-- whether the file system is FFS3
unfoldable pub is_ffs3 : List ℕ → Bool
is_ffs3 bytes = bytes_eq (file_system_guid bytes) (file_system true)

-- the erase polarity, attribute 0x800
unfoldable pub erase_polarity : List ℕ → ℕ
erase_polarity bytes = attributes bytes / 0x800 % 2

-- A header with the signature, the revision 2 and the name of FFS2 or of FFS3.
unfoldable pub has_names : List ℕ → Bool
has_names bytes =
    nat_le 0x48 (length bytes) && bytes_eq (signature bytes) (codes "_FVH") && revision bytes == 2
    && (bytes_eq (file_system_guid bytes) (file_system false) || is_ffs3 bytes)

-- Its length is even and at least 0x48; the volume's is at least that, and within the bytes.
unfoldable pub has_lengths : List ℕ → Bool
has_lengths bytes =
    header_length bytes % 2 == 0 && nat_le 0x48 (header_length bytes)
    && nat_le (header_length bytes) (fv_length bytes)
    && nat_le (fv_length bytes) (length bytes)

-- The block map fills the header to its end. Its last entry, and no other, is (0, 0). Its blocks
-- have as many bytes as the volume.
unfoldable pub has_blocks : List ℕ → Bool
has_blocks bytes =
    (header_length bytes - 0x38) % 8 == 0 && is_map_end bytes (block_entries bytes - 1)
    && not (list_any (is_map_end bytes) (range_with_len 0 (block_entries bytes - 1)))
    && sum_by (block_bytes bytes) (range_with_len 0 (block_entries bytes)) == fv_length bytes

-- The 16-bit words of the header sum to 0.
unfoldable pub has_sum : List ℕ → Bool
has_sum bytes = words_sum (take (header_length bytes) bytes) % 65536 == 0

-- whether these bytes begin with a volume's header
unfoldable pub is_head : List ℕ → Bool
is_head bytes = has_names bytes && has_lengths bytes && has_blocks bytes && has_sum bytes

-- the least multiple of 16 from a place on at which a volume's header stands
unfoldable pub volume_from : List ℕ → ℕ → Option ℕ
volume_from bytes from = find (λ at. at % 16 == 0 && is_head (drop at bytes))
    (range_with_len from (length bytes - from))
