-- The TE image of a PE module: UEFI PI specification, volume 1, "TE Image".
use Rattle.std.specs.Prelude.{ℕ, ◌==◌, Bool, not, nat_lt, List, [], ◌∷◌, ◌++◌, length, slice_index, codes, Result}
use Rattle.byteorder.specs.Endian.{little_bytes}
use Rattle.build_base.specs.First.{first_holding, unless}
use Rattle.te_images.specs.Pe.{machine, number_of_sections, subsystem, address_of_entry_point, base_of_code, image_base, section_alignment, file_alignment, data_directory, section_table, section_table_end, pe_checks}
use Rattle.te_images.specs.Standard.{IMAGE_DIRECTORY_ENTRY_BASERELOC, IMAGE_DIRECTORY_ENTRY_DEBUG}
use Rattle.te_images.specs.declared.fault.PeFault.{PeFault}
use Rattle.te_images.specs.declared.fault.PeFault.TheVariants.{Truncated, AlignmentsDiffer, TooManySections, HeaderTooLong, SubsystemTooLarge}
use Rattle.te_images.specs.declared.te.TeHead.{TeHead}

-- What a PE module can have that a TE image can't, in the order of the checks.
unfoldable pub te_limits : List ℕ → List (Bool × PeFault)
te_limits file =
    (nat_lt 0xFFFF (section_table file), HeaderTooLong)
    ∷ (nat_lt 0xFF (number_of_sections file), TooManySections)
    ∷ (nat_lt 0xFF (subsystem file), SubsystemTooLarge)
    ∷ (nat_lt (length file) (section_table_end file), Truncated)
    ∷ (not (file_alignment file == section_alignment file), AlignmentsDiffer)
    ∷ []

abbrev pub te_checks : List ℕ → List (Bool × PeFault)
te_checks file = pe_checks file ++ te_limits file

-- The header's values; StrippedSize is the place of the section table.
unfoldable pub te_head_of : List ℕ → TeHead
te_head_of file = record {
  machine = machine file;
  sections = number_of_sections file;
  subsystem = subsystem file;
  stripped = section_table file;
  entry = address_of_entry_point file;
  code = base_of_code file;
  base = image_base file;
  relocation = data_directory file IMAGE_DIRECTORY_ENTRY_BASERELOC;
  debug = data_directory file IMAGE_DIRECTORY_ENTRY_DEBUG;
}

-- The header of the TE image, or the first check that fails.
unfoldable pub te_of : List ℕ → Result TeHead PeFault
te_of file = unless (first_holding (te_checks file)) (te_head_of file)

abbrev pub directory_bytes : List ℕ → List ℕ
directory_bytes pair = little_bytes 4 (slice_index pair 0) ++ little_bytes 4 (slice_index pair 1)

-- What stands in front of ImageBase: "VZ", then each value in its own size, little-endian.
unfoldable pub front_bytes : TeHead → List ℕ
front_bytes head =
    codes "VZ" ++ little_bytes 2 head.machine ++ (head.sections ∷ head.subsystem ∷ [])
    ++ little_bytes 2 head.stripped
    ++ little_bytes 4 head.entry ++ little_bytes 4 head.code

-- the 40 bytes
unfoldable pub te_bytes : TeHead → List ℕ
te_bytes head =
    front_bytes head ++ little_bytes 8 head.base ++ directory_bytes head.relocation
    ++ directory_bytes head.debug
