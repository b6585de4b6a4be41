-- The keys of a volume (EDK II FDF specification, section 3.7; UEFI PI specification, volume 3,
-- section 3.2).
use Rattle.std.specs.Prelude.{ℕ, Bool, true, false, if◌then◌else◌, List, [], ◌∷◌, Option, Some, None, codes}
use Rattle.std.specs.Str.{bytes_eq}
use Rattle.build_base.specs.FaultText.{fault_of}
use Rattle.build_base.specs.Guid.{guid_of}
use Rattle.build_base.specs.declared.fault.Fault.{Fault}
use Rattle.build_base.specs.declared.guid.Guid.{Guid}
use Rattle.build_base.specs.declared.lines.Taken.{Taken}
use Rattle.meta_lexer.specs.Lookup.{lookup}
use Rattle.doc_reading.specs.ValueFields.{undefined_macro}
use Rattle.doc_reading.specs.Values.{require}
use Rattle.doc_types.specs.Standard.{EFI_FIRMWARE_FILE_SYSTEM2_GUID, EFI_FIRMWARE_FILE_SYSTEM3_GUID}
use Rattle.fdf_words.specs.declared.keys.VolumeWord.{VolumeWord}
use Rattle.fdf_words.specs.declared.keys.VolumeWord.TheVariants as word
use Rattle.fdf_words.specs.declared.number.NumberForm.{NumberForm}
use Rattle.fdf_words.specs.declared.number.NumberForm.TheVariants as form
use Rattle.fdf_words.specs.declared.number.Numbered.{Numbered}
use Rattle.fdf_words.specs.declared.rows.Row.{Row}
use Rattle.fdf_words.specs.declared.rows.Row.TheVariants.{Setting}
use Rattle.fdf_words.specs.declared.rows.VolumeKey.{VolumeKey}
use Rattle.fdf_words.specs.declared.rows.VolumeKey.TheVariants as key
use Rattle.fdf_words.specs.declared.rows.VolumeSetting.TheVariants as setting
use Rattle.fdf_words.specs.Numbers.{bad_value, number_faults, number_of_field}
use Rattle.fdf_words.specs.Words.{volume_alignment}
use Rattle.build_base.specs.FaultCodes.{BAD_KEY, FDF_BAD_GUID}

abbrev pub truths : List (List ℕ × Bool)
truths = (codes "TRUE", true) ∷ (codes "FALSE", false) ∷ []

unfoldable pub truth_named : List ℕ → Option Bool
truth_named word = lookup truths word

-- whether a file system is FFS3 and not FFS2
unfoldable pub is_ffs3 : Guid → Option Bool
is_ffs3 guid = if bytes_eq guid.0 EFI_FIRMWARE_FILE_SYSTEM2_GUID then Some false
    else if bytes_eq guid.0 EFI_FIRMWARE_FILE_SYSTEM3_GUID then Some true else None

abbrev pub volume_form : VolumeKey → NumberForm
volume_form key.ErasePolarity = form.Polarity
volume_form key.BlockSize = form.Plain
volume_form key.NumBlocks = form.Plain
volume_form key.FvBaseAddress = form.Plain
volume_form key.FvAlignment = form.Plain

abbrev pub made_number : VolumeKey → Option Numbered → Option Row
made_number known (Some numbered) = Some (Setting (setting.Number known numbered.number))
made_number known None = None

-- an alignment is no expression
abbrev pub alignment_faults : Taken → List ℕ → List (Option Fault)
alignment_faults line value = undefined_macro line.at value
    ∷ require (volume_alignment value) (bad_value line value) ∷ []

abbrev pub alignment_row : Option ℕ → Option Row
alignment_row (Some bytes) = Some (Setting (setting.Number key.FvAlignment bytes))
alignment_row None = None

abbrev pub numbers_faults : Taken → VolumeKey → List ℕ → List ℕ → List (Option Fault)
numbers_faults line key.FvAlignment name value = alignment_faults line value
numbers_faults line known name value = number_faults line (volume_form known) name value false

abbrev pub numbers_row : Taken → VolumeKey → List ℕ → Option Row
numbers_row line key.FvAlignment value = alignment_row (volume_alignment value)
numbers_row line known value = made_number known (number_of_field line (volume_form known) value)

abbrev pub truth_faults : Taken → List ℕ → List (Option Fault)
truth_faults line value = undefined_macro line.at value
    ∷ require (truth_named value) (bad_value line value) ∷ []

abbrev pub name_faults : Taken → List ℕ → List (Option Fault)
name_faults line value = undefined_macro line.at value
    ∷ require (guid_of value) (fault_of FDF_BAD_GUID line.at value) ∷ []

abbrev pub name_row : Option Guid → Option Row
name_row (Some guid) = Some (Setting (setting.NameGuid guid))
name_row None = None

abbrev pub file_system : Option Guid → Option Bool
file_system (Some guid) = is_ffs3 guid
file_system None = None

-- a GUID, and a file system that there is
abbrev pub system_fault : Taken → List ℕ → Option Guid → Option Fault
system_fault line value (Some guid) = require (is_ffs3 guid) (bad_value line value)
system_fault line value None = Some (fault_of FDF_BAD_GUID line.at value)

abbrev pub system_faults : Taken → List ℕ → List (Option Fault)
system_faults line value = undefined_macro line.at value ∷ system_fault line value (guid_of value)
    ∷ []

abbrev pub system_row : Option Bool → Option Row
system_row (Some ffs3) = Some (Setting (setting.FileSystem ffs3))
system_row None = None

abbrev pub force_row : Option Bool → Option Row
force_row (Some on) = Some (Setting (setting.ForceRebase on))
force_row None = None

abbrev pub attribute_row : ℕ → Option Bool → Option Row
attribute_row bits (Some on) = Some (Setting (setting.Attribute bits on))
attribute_row bits None = None

abbrev pub word_faults : Taken → List ℕ → List ℕ → Option VolumeWord → List (Option Fault)
word_faults line name value (Some (word.Number known)) = numbers_faults line known name value
word_faults line name value (Some word.NameGuid) = name_faults line value
word_faults line name value (Some word.FileSystem) = system_faults line value
word_faults line name value (Some word.ForceRebase) = truth_faults line value
word_faults line name value (Some (word.Attribute bits)) = truth_faults line value
word_faults line name value None = undefined_macro line.at value
    ∷ Some (fault_of BAD_KEY line.at name)
    ∷ []

abbrev pub word_row : Taken → List ℕ → Option VolumeWord → Option Row
word_row line value (Some (word.Number known)) = numbers_row line known value
word_row line value (Some word.NameGuid) = name_row (guid_of value)
word_row line value (Some word.FileSystem) = system_row (file_system (guid_of value))
word_row line value (Some word.ForceRebase) = force_row (truth_named value)
word_row line value (Some (word.Attribute bits)) = attribute_row bits (truth_named value)
word_row line value None = None
