-- The headers of a PE file, by the PE/COFF format: what stands where, and what is wrong with a
-- file.
use Rattle.std.specs.Prelude.{ℕ, ◌+◌, ◌*◌, ◌==◌, ◌&&◌, ◌||◌, Bool, not, nat_lt, nat_le, if◌then◌else◌, List, [], ◌∷◌, length, Result}
use Rattle.byteorder.specs.Endian.{little_from}
use Rattle.build_base.specs.First.{first_holding, unless}
use Rattle.te_images.specs.Standard.{IMAGE_DOS_SIGNATURE, IMAGE_NT_SIGNATURE, IMAGE_SIZEOF_DOS_HEADER, E_LFANEW, IMAGE_SIZEOF_FILE_HEADER, IMAGE_NT_OPTIONAL_HDR32_MAGIC, IMAGE_NT_OPTIONAL_HDR64_MAGIC, IMAGE_SIZEOF_OPTIONAL32_HEADER, IMAGE_SIZEOF_OPTIONAL64_HEADER, IMAGE_SIZEOF_SECTION_HEADER}
use Rattle.te_images.specs.declared.fault.PeFault.{PeFault}
use Rattle.te_images.specs.declared.fault.PeFault.TheVariants.{NotPe, Truncated}

-- The little-endian number of so many bytes at a place; what lies past the end reads as 0.
unfoldable pub number_at : ℕ → ℕ → List ℕ → ℕ
number_at size at file = little_from at size file

-- MS-DOS header

abbrev pub e_magic : List ℕ → ℕ
e_magic file = number_at 2 0 file

-- the place of the PE signature
abbrev pub e_lfanew : List ℕ → ℕ
e_lfanew file = number_at 4 E_LFANEW file

-- COFF file header, with the signature before it

abbrev pub signature : List ℕ → ℕ
signature file = number_at 4 (e_lfanew file) file

abbrev pub machine : List ℕ → ℕ
machine file = number_at 2 (e_lfanew file + 0x04) file

abbrev pub number_of_sections : List ℕ → ℕ
number_of_sections file = number_at 2 (e_lfanew file + 0x06) file

abbrev pub size_of_optional_header : List ℕ → ℕ
size_of_optional_header file = number_at 2 (e_lfanew file + 0x14) file

-- Optional header: that of PE32 or of PE32+, by its magic

abbrev pub optional_header : List ℕ → ℕ
optional_header file = e_lfanew file + IMAGE_SIZEOF_FILE_HEADER

abbrev pub magic : List ℕ → ℕ
magic file = number_at 2 (optional_header file) file

abbrev pub is_pe32_plus : List ℕ → Bool
is_pe32_plus file = magic file == IMAGE_NT_OPTIONAL_HDR64_MAGIC

abbrev pub address_of_entry_point : List ℕ → ℕ
address_of_entry_point file = number_at 4 (optional_header file + 0x10) file

abbrev pub base_of_code : List ℕ → ℕ
base_of_code file = number_at 4 (optional_header file + 0x14) file

abbrev pub image_base : List ℕ → ℕ
image_base file = if is_pe32_plus file then number_at 8 (optional_header file + 0x18) file
    else number_at 4 (optional_header file + 0x1C) file

abbrev pub section_alignment : List ℕ → ℕ
section_alignment file = number_at 4 (optional_header file + 0x20) file

abbrev pub file_alignment : List ℕ → ℕ
file_alignment file = number_at 4 (optional_header file + 0x24) file

abbrev pub subsystem : List ℕ → ℕ
subsystem file = number_at 2 (optional_header file + 0x44) file

abbrev pub number_of_rva_and_sizes : List ℕ → ℕ
number_of_rva_and_sizes file =
    number_at 4 (optional_header file + (if is_pe32_plus file then 0x6C else 0x5C)) file

-- where in the optional header a data directory stands
abbrev pub directory_offset : List ℕ → ℕ → ℕ
directory_offset file k =
    (if is_pe32_plus file then IMAGE_SIZEOF_OPTIONAL64_HEADER else IMAGE_SIZEOF_OPTIONAL32_HEADER)
    + 8 * k

abbrev pub has_directory : List ℕ → ℕ → Bool
has_directory file k = nat_lt k (number_of_rva_and_sizes file)
    && nat_le (directory_offset file k + 8) (size_of_optional_header file)

-- The address and the size in a data directory, or zeros where the optional header doesn't have it.
unfoldable pub data_directory : List ℕ → ℕ → List ℕ
data_directory file k =
    let at = optional_header file + directory_offset file k in
    if has_directory file k then number_at 4 at file ∷ number_at 4 (at + 4) file ∷ []
    else 0 ∷ 0 ∷ []

-- Section table: a header for each section

abbrev pub section_table : List ℕ → ℕ
section_table file = optional_header file + size_of_optional_header file

abbrev pub section_table_end : List ℕ → ℕ
section_table_end file = section_table file + IMAGE_SIZEOF_SECTION_HEADER * number_of_sections file

-- Which headers are not those of PE32 or PE32+, in the order of the checks.
unfoldable pub pe_checks : List ℕ → List (Bool × PeFault)
pe_checks file =
    (not (e_magic file == IMAGE_DOS_SIGNATURE), NotPe)
    ∷ (nat_lt (length file) IMAGE_SIZEOF_DOS_HEADER, Truncated)
    ∷ (nat_lt (length file) (optional_header file), Truncated)
    ∷ (not (signature file == IMAGE_NT_SIGNATURE), NotPe)
    ∷ (nat_lt (size_of_optional_header file) IMAGE_SIZEOF_OPTIONAL32_HEADER, NotPe)
    ∷ (nat_lt (length file) (section_table file), Truncated)
    ∷ (
      not (magic file == IMAGE_NT_OPTIONAL_HDR32_MAGIC
          || (is_pe32_plus file && nat_le IMAGE_SIZEOF_OPTIONAL64_HEADER
          (size_of_optional_header file))),
      NotPe,
    )
    ∷ []

-- SectionAlignment, or the first check up to the magic that fails.
unfoldable pub section_alignment_of : List ℕ → Result ℕ PeFault
section_alignment_of file = unless (first_holding (pe_checks file)) (section_alignment file)

unfoldable pub file_alignment_of : List ℕ → Result ℕ PeFault
file_alignment_of file = unless (first_holding (pe_checks file)) (file_alignment file)
