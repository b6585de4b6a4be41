-- Names of the PE/COFF format, and of the TE image (UEFI PI specification, volume 1).
use Rattle.std.specs.Prelude.{ℕ}

-- what a file begins with, and what its headers begin with
abbrev pub IMAGE_DOS_SIGNATURE : ℕ
IMAGE_DOS_SIGNATURE = 0x5A4D

abbrev pub IMAGE_NT_SIGNATURE : ℕ
IMAGE_NT_SIGNATURE = 0x4550

-- the length of the MS-DOS header, and the place in it of the signature's place
abbrev pub IMAGE_SIZEOF_DOS_HEADER : ℕ
IMAGE_SIZEOF_DOS_HEADER = 0x40

abbrev pub E_LFANEW : ℕ
E_LFANEW = 0x3C

-- the length of the signature and the COFF file header behind it
abbrev pub IMAGE_SIZEOF_FILE_HEADER : ℕ
IMAGE_SIZEOF_FILE_HEADER = 0x18

-- what an optional header begins with
abbrev pub IMAGE_NT_OPTIONAL_HDR32_MAGIC : ℕ
IMAGE_NT_OPTIONAL_HDR32_MAGIC = 0x10B

abbrev pub IMAGE_NT_OPTIONAL_HDR64_MAGIC : ℕ
IMAGE_NT_OPTIONAL_HDR64_MAGIC = 0x20B

-- the length of an optional header without data directories
abbrev pub IMAGE_SIZEOF_OPTIONAL32_HEADER : ℕ
IMAGE_SIZEOF_OPTIONAL32_HEADER = 0x60

abbrev pub IMAGE_SIZEOF_OPTIONAL64_HEADER : ℕ
IMAGE_SIZEOF_OPTIONAL64_HEADER = 0x70

-- numbers of data directories
abbrev pub IMAGE_DIRECTORY_ENTRY_BASERELOC : ℕ
IMAGE_DIRECTORY_ENTRY_BASERELOC = 0x05

abbrev pub IMAGE_DIRECTORY_ENTRY_DEBUG : ℕ
IMAGE_DIRECTORY_ENTRY_DEBUG = 0x06

-- the length of a section's header in the section table
abbrev pub IMAGE_SIZEOF_SECTION_HEADER : ℕ
IMAGE_SIZEOF_SECTION_HEADER = 0x28
