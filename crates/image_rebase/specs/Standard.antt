-- Names of the PE/COFF format, section 5.6 (".reloc"), and of the TE image (UEFI PI specification,
-- volume 1).
use Rattle.std.specs.Prelude.{ℕ}

-- "VZ", what a TE image begins with, and the length of its header
abbrev pub EFI_TE_IMAGE_HEADER_SIGNATURE : ℕ
EFI_TE_IMAGE_HEADER_SIGNATURE = 0x5A56

abbrev pub EFI_TE_IMAGE_HEADER_SIZE : ℕ
EFI_TE_IMAGE_HEADER_SIZE = 0x28

-- types of base relocations: none, a word of 32 bits, a word of 64 bits
abbrev pub IMAGE_REL_BASED_ABSOLUTE : ℕ
IMAGE_REL_BASED_ABSOLUTE = 0

abbrev pub IMAGE_REL_BASED_HIGHLOW : ℕ
IMAGE_REL_BASED_HIGHLOW = 3

abbrev pub IMAGE_REL_BASED_DIR64 : ℕ
IMAGE_REL_BASED_DIR64 = 10

-- the length of what a block of base relocations begins with: the page's address and the block's
-- size
abbrev pub IMAGE_SIZEOF_BASE_RELOCATION : ℕ
IMAGE_SIZEOF_BASE_RELOCATION = 8

-- sections of a file that hold modules
abbrev pub EFI_SECTION_PE32 : ℕ
EFI_SECTION_PE32 = 0x10

abbrev pub EFI_SECTION_TE : ℕ
EFI_SECTION_TE = 0x12
