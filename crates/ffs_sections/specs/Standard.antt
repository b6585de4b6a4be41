-- Names of the standard (UEFI PI specification, volume 3, sections 2.1 and 3.2).
use Rattle.std.specs.Prelude.{ℕ}
use Rattle.doc_types.specs.Volumes.{size_limit}

-- the size of a section that stands in the 32 bits behind its kind
abbrev pub EXTENDED_SIZE : ℕ
EXTENDED_SIZE = 0xFFFFFF

-- attributes of a file
abbrev pub FFS_ATTRIB_LARGE_FILE : ℕ
FFS_ATTRIB_LARGE_FILE = 0x01

abbrev pub FFS_ATTRIB_FIXED : ℕ
FFS_ATTRIB_FIXED = 0x04

abbrev pub FFS_ATTRIB_CHECKSUM : ℕ
FFS_ATTRIB_CHECKSUM = 0x40

-- the file checksum of a file without the attribute CHECKSUM
abbrev pub FFS_FIXED_CHECKSUM : ℕ
FFS_FIXED_CHECKSUM = 0xAA

-- the state of a whole file: header made, header valid and data valid
abbrev pub FILE_STATE : ℕ
FILE_STATE = 0x07

-- the greatest sizes, headers counted: of a section in an FFS2 volume, of a file in one, of either
-- in an FFS3 volume, that of a volume
abbrev pub SECTION_LIMIT : ℕ
SECTION_LIMIT = 0xFFFFFE

abbrev pub FILE_LIMIT : ℕ
FILE_LIMIT = 0xFFFFFF

abbrev pub FFS3_LIMIT : ℕ
FFS3_LIMIT = size_limit
