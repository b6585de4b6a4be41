-- The header of a firmware volume, and its extended header (UEFI PI specification, volume 3,
-- section 3.2.1).
use Rattle.std.specs.Prelude.{ℕ, ◌+◌, ◌-◌, ◌*◌, ◌/◌, ◌%◌, Bool, if◌then◌else◌, List, [], ◌∷◌, ◌++◌, replicate, codes, Option, Some, None}
use Rattle.byteorder.specs.Endian.{little_bytes}
use Rattle.build_base.specs.Pieces.{Piece}
use Rattle.build_base.specs.declared.guid.Guid.{Guid}
use Rattle.doc_types.specs.Standard.{EFI_FIRMWARE_FILE_SYSTEM2_GUID, EFI_FIRMWARE_FILE_SYSTEM3_GUID}
use Rattle.doc_types.specs.declared.volume_head.VolumeHead.{VolumeHead}
use Rattle.fv_compose.specs.Pads.{pad_header}

-- the sum of the 16-bit words
unfoldable pub words_sum : List ℕ → ℕ
words_sum [] = 0
words_sum (low ∷ []) = low
words_sum (low ∷ high ∷ bytes) = low + 256 * high + words_sum bytes

-- the word that makes it zero
unfoldable pub zero_word : List ℕ → ℕ
zero_word bytes = (65536 - words_sum bytes % 65536) % 65536

abbrev pub file_system : Bool → List ℕ
file_system third = if third then EFI_FIRMWARE_FILE_SYSTEM3_GUID else EFI_FIRMWARE_FILE_SYSTEM2_GUID

-- the zero vector, the file system and the volume's length
unfoldable pub head_start : Bool → ℕ → List ℕ
head_start third size = replicate 16 0 ++ file_system third ++ little_bytes 8 size

-- and the signature, the attributes and the header's length
unfoldable pub head_front : Bool → ℕ → ℕ → List ℕ
head_front third size attributes = head_start third size ++ codes "_FVH"
    ++ little_bytes 4 attributes ++ little_bytes 2 0x48

-- checksum, place of the extended header, a reserved byte, revision 2, and a block map of one entry
-- and its end
unfoldable pub head_back : ℕ → ℕ → ℕ → ℕ → List ℕ
head_back sum extended blocks block_size =
    little_bytes 2 sum ++ little_bytes 2 extended ++ (0 ∷ 2 ∷ []) ++ little_bytes 4 blocks
    ++ little_bytes 4 block_size ++ replicate 8 0

-- the extended header stands in a pad file behind the header
abbrev pub extended_place : Option Guid → ℕ
extended_place None = 0
extended_place (Some name) = 0x60

-- the header with this checksum
unfoldable pub head_list : VolumeHead → ℕ → ℕ → List ℕ
head_list plan size sum =
    head_front plan.ffs3 size plan.attributes
    ++ head_back sum (extended_place plan.name_guid) (size / plan.block_size) plan.block_size

-- the header whose words sum to zero
unfoldable pub head_of : VolumeHead → ℕ → List ℕ
head_of plan size = head_list plan size (zero_word (head_list plan size 0))

-- the pad file with the extended header: the volume's name and the length of the extended header
unfoldable pub extended_bytes : ℕ → List ℕ → List ℕ
extended_bytes erase name = pad_header erase 0x2C ++ name ++ little_bytes 4 0x14

abbrev pub extended_pieces : ℕ → Option Guid → List Piece
extended_pieces erase None = []
extended_pieces erase (Some name) = record { start = 0x48; bytes = extended_bytes erase name.0 }
    ∷ []

-- the header, and the extended header where the volume has a name
unfoldable pub start_pieces : VolumeHead → ℕ → List Piece
start_pieces plan size = record { start = 0; bytes = head_of plan size }
    ∷ extended_pieces plan.erase plan.name_guid

-- where they end
abbrev pub header_end : Option Guid → ℕ
header_end None = 0x48
header_end (Some name) = 0x74
