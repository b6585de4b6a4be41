-- The statements of a volume (EDK II FDF specification, section 3.7; UEFI PI specification, volume
-- 3, section
-- 2.1.4.1 for the types of files).
use Rattle.std.specs.Prelude.{ℕ, ◌-◌, Bool, true, false, ◌==◌, if◌then◌else◌, List, [], ◌∷◌, length, take, Option, Some, None, codes}
use Rattle.std.specs.Option.{option_and_then}
use Rattle.build_base.specs.FaultText.{fault_of}
use Rattle.build_base.specs.Guid.{guid_of}
use Rattle.build_base.specs.declared.fault.Fault.{Fault}
use Rattle.build_base.specs.declared.guid.Guid.{Guid}
use Rattle.build_base.specs.declared.lines.Taken.{Taken}
use Rattle.meta_lexer.specs.Lookup.{lookup}
use Rattle.meta_lexer.specs.Words.{has_macro_use}
use Rattle.doc_reading.specs.ValueFields.{undefined_macro}
use Rattle.doc_reading.specs.Values.{require}
use Rattle.doc_types.specs.Standard.{EFI_FV_FILETYPE_APPLICATION, EFI_FV_FILETYPE_DRIVER, EFI_FV_FILETYPE_DXE_CORE, EFI_FV_FILETYPE_FIRMWARE_VOLUME_IMAGE, EFI_FV_FILETYPE_FREEFORM, EFI_FV_FILETYPE_MM, EFI_FV_FILETYPE_MM_CORE, EFI_FV_FILETYPE_PEIM, EFI_FV_FILETYPE_PEI_CORE, EFI_FV_FILETYPE_RAW, EFI_FV_FILETYPE_SECURITY_CORE}
use Rattle.doc_types.specs.declared.volume.Member.TheVariants as member
use Rattle.fdf_words.specs.declared.rows.FileHead.{FileHead}
use Rattle.fdf_words.specs.declared.rows.Row.{Row}
use Rattle.fdf_words.specs.declared.rows.Row.TheVariants as row
use Rattle.fdf_words.specs.declared.words.Options.{Options}
use Rattle.fdf_words.specs.Numbers.{bad_line}
use Rattle.fdf_words.specs.Words.{word_of, after_word, after_equals, before_brace, options_of}
use Rattle.build_base.specs.FaultCodes.{FDF_BAD_FILE, FDF_BAD_GUID, TOO_MANY, UNDEFINED_MACRO}

-- a line that is of no form, unless a macro is left in it
abbrev pub no_form_faults : ℕ → Taken → List (Option Fault)
no_form_faults code line = undefined_macro line.at line.text ∷ Some (bad_line code line) ∷ []

-- a macro that is left before a field at the line's end
abbrev pub macro_before : Taken → List ℕ → Option Fault
macro_before line field = if has_macro_use (take (length line.text - length field) line.text)
    then Some (bad_line UNDEFINED_MACRO line) else None

-- a volume has at most 65,535 statements
abbrev pub full_fault : Taken → Bool → Option Fault
full_fault line full = if full then Some (fault_of TOO_MANY line.at (codes "65536")) else None

abbrev pub file_types : List (List ℕ × ℕ)
file_types =
    (codes "RAW", EFI_FV_FILETYPE_RAW) ∷ (codes "FREEFORM", EFI_FV_FILETYPE_FREEFORM)
    ∷ (codes "SEC", EFI_FV_FILETYPE_SECURITY_CORE)
    ∷ (codes "PEI_CORE", EFI_FV_FILETYPE_PEI_CORE) ∷ (codes "DXE_CORE", EFI_FV_FILETYPE_DXE_CORE)
    ∷ (codes "PEIM", EFI_FV_FILETYPE_PEIM)
    ∷ (codes "DRIVER", EFI_FV_FILETYPE_DRIVER) ∷ (codes "APPLICATION", EFI_FV_FILETYPE_APPLICATION)
    ∷ (codes "SMM", EFI_FV_FILETYPE_MM)
    ∷ (codes "FV_IMAGE", EFI_FV_FILETYPE_FIRMWARE_VOLUME_IMAGE)
    ∷ (codes "SMM_CORE", EFI_FV_FILETYPE_MM_CORE) ∷ []

unfoldable pub file_type : List ℕ → Option ℕ
file_type word = lookup file_types word

-- `NAME OPTIONS` of `TYPE = NAME OPTIONS {`
unfoldable pub file_front : List ℕ → Option (List ℕ)
file_front text = option_and_then before_brace (after_equals (after_word text))

abbrev pub parted : Option ℕ → List ℕ → Option Options → Option (ℕ × List ℕ × Options)
parted (Some kind) name (Some options) = Some (kind, name, options)
parted (Some kind) name None = None
parted None name options = None

abbrev pub front_parts : Option ℕ → Option (List ℕ) → Option (ℕ × List ℕ × Options)
front_parts kind (Some front) = parted kind (word_of front) (options_of (after_word front))
front_parts kind None = None

-- the type, the name and the options of `TYPE = NAME OPTIONS {`, which follows the word FILE
unfoldable pub file_parts : List ℕ → Option (ℕ × List ℕ × Options)
file_parts text = front_parts (file_type (word_of text)) (file_front text)

-- a word that is a GUID
abbrev pub guid_fault : Taken → List ℕ → Option Guid → Option Fault
guid_fault line word guid = if length word == 0 then Some (bad_line FDF_BAD_FILE line)
    else require guid (fault_of FDF_BAD_GUID line.at word)

abbrev pub parts_fault : Taken → Option (ℕ × List ℕ × Options) → Option Fault
parts_fault line (Some p) = guid_fault line p.1 (guid_of p.1)
parts_fault line None = Some (bad_line FDF_BAD_FILE line)

abbrev pub head_with : Taken → ℕ → Option Guid → Options → FileHead
head_with line kind guid options =
    record {
      at = line.at;
      file_type = kind;
      guid = guid;
      fixed = options.fixed;
      checksum =
          options.checksum;
      align = options.align;
    }

abbrev pub named_file : Taken → ℕ → Option Guid → Options → Option Row
named_file line kind (Some guid) options = Some (row.File (head_with line kind (Some guid) options))
named_file line kind None options = None

abbrev pub parts_row : Taken → Option (ℕ × List ℕ × Options) → Option Row
parts_row line (Some p) = named_file line p.0 (guid_of p.1) p.2
parts_row line None = None

unfoldable pub file_faults : Taken → Bool → List (Option Fault)
file_faults line full = undefined_macro line.at line.text
    ∷ parts_fault line (file_parts (after_word line.text)) ∷ full_fault line full ∷ []

unfoldable pub file_row : Taken → Option Row
file_row line = parts_row line (file_parts (after_word line.text))

-- the name of `TYPE = NAME`, which stands in the braces of an a priori file
abbrev pub alone : Option ℕ → Option (List ℕ) → Option (List ℕ)
alone (Some kind) (Some text) = if length (after_word text) == 0 then Some (word_of text) else None
alone (Some kind) None = None
alone None text = None

unfoldable pub member_name : List ℕ → Option (List ℕ)
member_name text = alone (file_type (word_of text)) (after_equals (after_word text))

abbrev pub member_fault : Taken → Option (List ℕ) → Option Fault
member_fault line (Some word) = guid_fault line word (guid_of word)
member_fault line None = Some (bad_line FDF_BAD_FILE line)

abbrev pub named_member : Option Guid → Option Row
named_member (Some guid) = Some (row.Member (member.File guid))
named_member None = None

abbrev pub member_of : Option (List ℕ) → Option Row
member_of (Some word) = named_member (guid_of word)
member_of None = None

unfoldable pub member_faults : Taken → List (Option Fault)
member_faults line = undefined_macro line.at line.text
    ∷ member_fault line (member_name (after_word line.text)) ∷ []

unfoldable pub member_row : Taken → Option Row
member_row line = member_of (member_name (after_word line.text))

abbrev pub apriori_names : List (List ℕ × Bool)
apriori_names = (codes "PEI", true) ∷ (codes "DXE", false) ∷ []

-- PEI or DXE of `PEI {`
unfoldable pub apriori_named : List ℕ → Option Bool
apriori_named text = option_and_then (lookup apriori_names) (before_brace text)

abbrev pub made_apriori : Taken → Option Bool → Option Row
made_apriori line (Some pei) = Some (row.Apriori (record { at = line.at; pei = pei }))
made_apriori line None = None

unfoldable pub apriori_faults : Taken → Bool → List (Option Fault)
apriori_faults line full =
    undefined_macro line.at line.text ∷ require (apriori_named (after_word line.text))
    (bad_line FDF_BAD_FILE line) ∷ full_fault line full ∷ []

unfoldable pub apriori_row : Taken → Option Row
apriori_row line = made_apriori line (apriori_named (after_word line.text))
