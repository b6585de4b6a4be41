-- Names of the standard (UEFI PI specification, volume 3, sections 2.1, 2.2 and 3.2): kinds of
-- sections, types of files, file systems.
use Rattle.std.specs.Prelude.{ℕ, List, [], ◌∷◌}

-- kinds of sections
abbrev pub EFI_SECTION_PE32 : ℕ
EFI_SECTION_PE32 = 0x10

abbrev pub EFI_SECTION_TE : ℕ
EFI_SECTION_TE = 0x12

abbrev pub EFI_SECTION_DXE_DEPEX : ℕ
EFI_SECTION_DXE_DEPEX = 0x13

abbrev pub EFI_SECTION_VERSION : ℕ
EFI_SECTION_VERSION = 0x14

abbrev pub EFI_SECTION_USER_INTERFACE : ℕ
EFI_SECTION_USER_INTERFACE = 0x15

abbrev pub EFI_SECTION_FIRMWARE_VOLUME_IMAGE : ℕ
EFI_SECTION_FIRMWARE_VOLUME_IMAGE = 0x17

-- the kind of a section with a GUID behind its header
abbrev pub EFI_SECTION_FREEFORM_SUBTYPE_GUID : ℕ
EFI_SECTION_FREEFORM_SUBTYPE_GUID = 0x18

-- the kind of a section of raw data, with which pads are made
abbrev pub EFI_SECTION_RAW : ℕ
EFI_SECTION_RAW = 0x19

abbrev pub EFI_SECTION_PEI_DEPEX : ℕ
EFI_SECTION_PEI_DEPEX = 0x1B

abbrev pub EFI_SECTION_MM_DEPEX : ℕ
EFI_SECTION_MM_DEPEX = 0x1C

-- types of files
abbrev pub EFI_FV_FILETYPE_RAW : ℕ
EFI_FV_FILETYPE_RAW = 0x01

abbrev pub EFI_FV_FILETYPE_FREEFORM : ℕ
EFI_FV_FILETYPE_FREEFORM = 0x02

abbrev pub EFI_FV_FILETYPE_SECURITY_CORE : ℕ
EFI_FV_FILETYPE_SECURITY_CORE = 0x03

abbrev pub EFI_FV_FILETYPE_PEI_CORE : ℕ
EFI_FV_FILETYPE_PEI_CORE = 0x04

abbrev pub EFI_FV_FILETYPE_DXE_CORE : ℕ
EFI_FV_FILETYPE_DXE_CORE = 0x05

abbrev pub EFI_FV_FILETYPE_PEIM : ℕ
EFI_FV_FILETYPE_PEIM = 0x06

abbrev pub EFI_FV_FILETYPE_DRIVER : ℕ
EFI_FV_FILETYPE_DRIVER = 0x07

abbrev pub EFI_FV_FILETYPE_APPLICATION : ℕ
EFI_FV_FILETYPE_APPLICATION = 0x09

abbrev pub EFI_FV_FILETYPE_MM : ℕ
EFI_FV_FILETYPE_MM = 0x0A

abbrev pub EFI_FV_FILETYPE_FIRMWARE_VOLUME_IMAGE : ℕ
EFI_FV_FILETYPE_FIRMWARE_VOLUME_IMAGE = 0x0B

abbrev pub EFI_FV_FILETYPE_MM_CORE : ℕ
EFI_FV_FILETYPE_MM_CORE = 0x0D

-- the type of a pad file
abbrev pub EFI_FV_FILETYPE_FFS_PAD : ℕ
EFI_FV_FILETYPE_FFS_PAD = 0xF0

-- 8c8ce578-8a3d-4f1c-9935-896185c32dd3
abbrev pub EFI_FIRMWARE_FILE_SYSTEM2_GUID : List ℕ
EFI_FIRMWARE_FILE_SYSTEM2_GUID = 0x78 ∷ 0xE5 ∷ 0x8C ∷ 0x8C ∷ 0x3D ∷ 0x8A ∷ 0x1C ∷ 0x4F ∷ 0x99 ∷ 0x35
    ∷ 0x89 ∷ 0x61 ∷ 0x85 ∷ 0xC3 ∷ 0x2D ∷ 0xD3 ∷ []

-- 5473c07a-3dcb-4dca-bd6f-1e9689e7349a
abbrev pub EFI_FIRMWARE_FILE_SYSTEM3_GUID : List ℕ
EFI_FIRMWARE_FILE_SYSTEM3_GUID = 0x7A ∷ 0xC0 ∷ 0x73 ∷ 0x54 ∷ 0xCB ∷ 0x3D ∷ 0xCA ∷ 0x4D ∷ 0xBD ∷ 0x6F
    ∷ 0x1E ∷ 0x96 ∷ 0x89 ∷ 0xE7 ∷ 0x34 ∷ 0x9A ∷ []
