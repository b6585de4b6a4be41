-- The lines in the braces of a file (EDK II FDF specification, section 3.7; UEFI PI specification,
-- volume 3, section
-- 2.1.5.1 for the types of sections): sections, or one path.
use Rattle.std.specs.Prelude.{ℕ, ◌&&◌, not, ◌==◌, if◌then◌else◌, List, [], ◌∷◌, length, Option, Some, None, codes}
use Rattle.std.specs.List.{list_all}
use Rattle.std.specs.Option.{option_map}
use Rattle.build_base.specs.FaultText.{fault_of}
use Rattle.build_base.specs.Guid.{guid_of}
use Rattle.build_base.specs.Path.{path_field}
use Rattle.build_base.specs.declared.fault.Fault.{Fault}
use Rattle.build_base.specs.declared.guid.Guid.{Guid}
use Rattle.build_base.specs.declared.lines.Taken.{Taken}
use Rattle.macro_expressions.specs.Macros.{without_workspace}
use Rattle.meta_lexer.specs.Heads.{inner, stands_between}
use Rattle.meta_lexer.specs.Lookup.{lookup}
use Rattle.meta_lexer.specs.Words.{same_word}
use Rattle.doc_reading.specs.ValueFields.{undefined_macro}
use Rattle.doc_reading.specs.Values.{require}
use Rattle.doc_types.specs.Standard.{EFI_SECTION_DXE_DEPEX, EFI_SECTION_FIRMWARE_VOLUME_IMAGE, EFI_SECTION_FREEFORM_SUBTYPE_GUID, EFI_SECTION_MM_DEPEX, EFI_SECTION_PE32, EFI_SECTION_PEI_DEPEX, EFI_SECTION_RAW, EFI_SECTION_TE, EFI_SECTION_USER_INTERFACE, EFI_SECTION_VERSION}
use Rattle.doc_types.specs.declared.volume.Align.{Align}
use Rattle.doc_types.specs.declared.volume.Align.TheVariants.{Unset, Bytes}
use Rattle.fdf_volumes.specs.declared.body.SectionWord.{SectionWord}
use Rattle.fdf_volumes.specs.declared.body.SectionWord.TheVariants.{Plain, Worded, Nested, Named, Refused}
use Rattle.fdf_words.specs.declared.rows.Row.{Row}
use Rattle.fdf_words.specs.declared.rows.Row.TheVariants as row
use Rattle.fdf_words.specs.declared.rows.SectionBody as body_type
use Rattle.fdf_words.specs.declared.rows.SectionBody.TheVariants as body
use Rattle.fdf_volumes.specs.Statements.{no_form_faults, macro_before}
use Rattle.fdf_words.specs.Words.{word_of, after_word, after_equals, stated_align}
use Rattle.build_base.specs.FaultCodes.{BAD_PATH, COMPRESSED_REFUSED, FDF_BAD_FILE, FDF_BAD_GUID}

-- what stands behind a section's kind; the compressed and the GUIDed ones are refused
abbrev pub section_words : List (List ℕ × SectionWord)
section_words =
    (codes "PE32", Plain EFI_SECTION_PE32) ∷ (codes "TE", Plain EFI_SECTION_TE)
    ∷ (codes "DXE_DEPEX", Plain EFI_SECTION_DXE_DEPEX)
    ∷ (codes "VERSION", Worded EFI_SECTION_VERSION)
    ∷ (codes "UI", Worded EFI_SECTION_USER_INTERFACE)
    ∷ (codes "FV_IMAGE", Nested) ∷ (codes "SUBTYPE_GUID", Named)
    ∷ (codes "RAW", Plain EFI_SECTION_RAW) ∷ (codes "PEI_DEPEX", Plain EFI_SECTION_PEI_DEPEX)
    ∷ (codes "SMM_DEPEX", Plain EFI_SECTION_MM_DEPEX)
    ∷ (codes "COMPRESS", Refused) ∷ (codes "GUIDED", Refused) ∷ []

unfoldable pub section_word : List ℕ → Option SectionWord
section_word word = lookup section_words word

-- an alignment, if one is stated, and what follows it
unfoldable pub maybe_align : List ℕ → Option (Align × List ℕ)
maybe_align text =
    if same_word (word_of text) (codes "Align")
    then option_map (λ p. (Bytes p.0, p.1)) (stated_align (after_word text))
    else Some (Unset, text)

-- a text in quotes, without a quote in it
unfoldable pub words_in_quotes : List ℕ → Option (List ℕ)
words_in_quotes text = if stands_between 34 34 text && list_all (λ b. not (b == 34)) (inner text)
    then Some (inner text) else None

abbrev pub made_section : Taken → ℕ → Align → Option Guid → body_type.SectionBody → Row
made_section line kind align guid filled =
    row.Section (record { at = line.at; kind = kind; align = align; guid = guid; body = filled })

-- `= path`
abbrev pub path_faults : Taken → List ℕ → List (Option Fault)
path_faults line value = macro_before line value
    ∷ require (path_field (without_workspace value)) (fault_of BAD_PATH line.at value) ∷ []

abbrev pub path_row : Taken → ℕ → Align → Option (List ℕ) → Option Row
path_row line kind align (Some path) = Some (made_section line kind align None (body.Tree path))
path_row line kind align None = None

-- `= "text"`, or a path
abbrev pub words_faults : Taken → List ℕ → Option (List ℕ) → List (Option Fault)
words_faults line value (Some words) = undefined_macro line.at line.text ∷ []
words_faults line value None = path_faults line value

abbrev pub words_row : Taken → ℕ → Align → List ℕ → Option (List ℕ) → Option Row
words_row line kind align value (Some words) =
    Some (made_section line kind align None (body.Words words))
words_row line kind align value None =
    path_row line kind align (path_field (without_workspace value))

-- `guid = path`
abbrev pub guid_faults : Taken → List ℕ → List ℕ → List (Option Fault)
guid_faults line word value =
    macro_before line value ∷ require (path_field (without_workspace value))
    (fault_of BAD_PATH line.at value) ∷ require (guid_of word) (fault_of FDF_BAD_GUID line.at word)
    ∷ []

abbrev pub guid_row : Taken → Align → Option Guid → Option (List ℕ) → Option Row
guid_row line align (Some guid) (Some path) =
    Some (made_section line EFI_SECTION_FREEFORM_SUBTYPE_GUID align (Some guid) (body.Tree path))
guid_row line align (Some guid) None = None
guid_row line align None path = None

-- a value that isn't empty
abbrev pub some_text : Option (List ℕ) → Option (List ℕ)
some_text (Some text) = if length text == 0 then None else Some text
some_text None = None

abbrev pub if_word : List ℕ → Option (List ℕ) → Option (List ℕ)
if_word word value = if length word == 0 then None else value

abbrev pub value_faults : Taken → SectionWord → List ℕ → List (Option Fault)
value_faults line (Plain kind) value = path_faults line value
value_faults line (Worded kind) value = words_faults line value (words_in_quotes value)
value_faults line Nested value = undefined_macro line.at line.text ∷ []
value_faults line Named value = no_form_faults FDF_BAD_FILE line
value_faults line Refused value = no_form_faults FDF_BAD_FILE line

abbrev pub value_row : Taken → Align → SectionWord → List ℕ → Option Row
value_row line align (Plain kind) value =
    path_row line kind align (path_field (without_workspace value))
value_row line align (Worded kind) value = words_row line kind align value (words_in_quotes value)
value_row line align Nested value =
    Some (made_section line EFI_SECTION_FIRMWARE_VOLUME_IMAGE align None (body.Volume value))
value_row line align Named value = None
value_row line align Refused value = None

abbrev pub equals_faults : Taken → SectionWord → Option (List ℕ) → List (Option Fault)
equals_faults line word (Some value) = value_faults line word value
equals_faults line word None = no_form_faults FDF_BAD_FILE line

abbrev pub equals_row : Taken → Align → SectionWord → Option (List ℕ) → Option Row
equals_row line align word (Some value) = value_row line align word value
equals_row line align word None = None

abbrev pub named_faults : Taken → List ℕ → Option (List ℕ) → List (Option Fault)
named_faults line word (Some value) = guid_faults line word value
named_faults line word None = no_form_faults FDF_BAD_FILE line

abbrev pub named_row : Taken → Align → List ℕ → Option (List ℕ) → Option Row
named_row line align word (Some value) =
    guid_row line align (guid_of word) (path_field (without_workspace value))
named_row line align word None = None

-- the path behind `guid =`
unfoldable pub named_value : List ℕ → Option (List ℕ)
named_value text = if_word (word_of text) (some_text (after_equals (after_word text)))

abbrev pub kind_faults : Taken → List ℕ → Option SectionWord → List (Option Fault)
kind_faults line text (Some Refused) =
    undefined_macro line.at line.text ∷ Some (fault_of COMPRESSED_REFUSED line.at (word_of text))
    ∷ []
kind_faults line text (Some Named) =
    named_faults line (word_of (after_word text)) (named_value (after_word text))
kind_faults line text (Some word) =
    equals_faults line word (some_text (after_equals (after_word text)))
kind_faults line text None = no_form_faults FDF_BAD_FILE line

abbrev pub kind_row : Taken → Align → List ℕ → Option SectionWord → Option Row
kind_row line align text (Some Refused) = None
kind_row line align text (Some Named) =
    named_row line align (word_of (after_word text)) (named_value (after_word text))
kind_row line align text (Some word) =
    equals_row line align word (some_text (after_equals (after_word text)))
kind_row line align text None = None

abbrev pub aligned_faults : Taken → Option (Align × List ℕ) → List (Option Fault)
aligned_faults line (Some p) = kind_faults line p.1 (section_word (word_of p.1))
aligned_faults line None = no_form_faults FDF_BAD_FILE line

abbrev pub aligned_row : Taken → Option (Align × List ℕ) → Option Row
aligned_row line (Some p) = kind_row line p.0 p.1 (section_word (word_of p.1))
aligned_row line None = None

-- `SECTION KIND = ..`
unfoldable pub section_faults : Taken → List (Option Fault)
section_faults line = aligned_faults line (maybe_align (after_word line.text))

unfoldable pub section_row : Taken → Option Row
section_row line = aligned_row line (maybe_align (after_word line.text))

-- the path of a whole body
abbrev pub whole_faults : Taken → List (Option Fault)
whole_faults line = require (path_field (without_workspace line.text))
    (fault_of BAD_PATH line.at line.text) ∷ []

abbrev pub whole_row : Option (List ℕ) → Option Row
whole_row (Some path) = Some (row.Whole path)
whole_row None = None
