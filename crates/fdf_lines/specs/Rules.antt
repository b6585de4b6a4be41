-- The lines of a rule (EDK II FDF specification, section 3.8).
use Rattle.std.specs.Prelude.{ℕ, ◌-◌, Bool, true, false, ◌&&◌, ◌||◌, not, nat_eq, ◌==◌, if◌then◌else◌, List, [], ◌∷◌, length, take, Option, Some, None, Result, Ok, Err, codes}
use Rattle.std.specs.List.{list_all, list_any, starts_with}
use Rattle.std.specs.Option.{option_map, option_and_then}
use Rattle.build_base.specs.FaultText.{fault_of}
use Rattle.build_base.specs.declared.fault.Fault.{Fault}
use Rattle.build_base.specs.declared.lines.Taken.{Taken}
use Rattle.macro_expressions.specs.Macros.{same_text}
use Rattle.macro_expressions.specs.Macros.{without_workspace}
use Rattle.meta_lexer.specs.Lookup.{lookup}
use Rattle.meta_lexer.specs.Lines.{is_blank}
use Rattle.meta_lexer.specs.Words.{same_word}
use Rattle.doc_reading.specs.Least.{fault_in, least_of}
use Rattle.doc_types.specs.Standard.{EFI_SECTION_DXE_DEPEX, EFI_SECTION_FIRMWARE_VOLUME_IMAGE, EFI_SECTION_MM_DEPEX, EFI_SECTION_PE32, EFI_SECTION_PEI_DEPEX, EFI_SECTION_RAW, EFI_SECTION_TE, EFI_SECTION_USER_INTERFACE, EFI_SECTION_VERSION}
use Rattle.doc_types.specs.declared.volume.Align.{Align}
use Rattle.doc_types.specs.declared.volume.Align.TheVariants.{Unset, Auto, Bytes}
use Rattle.doc_types.specs.declared.volume.SectionSource.{SectionSource}
use Rattle.doc_types.specs.declared.volume.SectionSource.TheVariants.{Template, Words, Refused}
use Rattle.fdf_words.specs.declared.rows.Row.{Row}
use Rattle.fdf_words.specs.declared.rows.Row.TheVariants as row
use Rattle.fdf_lines.specs.declared.rule_options.RuleOption.{RuleOption}
use Rattle.fdf_lines.specs.declared.rule_options.RuleOption.TheVariants as option
use Rattle.fdf_lines.specs.declared.rule_options.RuleOptions.{RuleOptions}
use Rattle.fdf_lines.specs.declared.rule_line.RuleKind.{RuleKind}
use Rattle.fdf_lines.specs.declared.rule_line.RuleKind.TheVariants as kind_
use Rattle.fdf_lines.specs.RuleNumbers.{stated_number}
use Rattle.fdf_words.specs.declared.marks.Marks.{Marks}
use Rattle.fdf_words.specs.declared.marks.Open.{Open}
use Rattle.fdf_words.specs.declared.marks.Open.TheVariants.{InRule}
use Rattle.fdf_words.specs.declared.words.Options.{Options}
use Rattle.fdf_volumes.specs.InfLines.{quoted_front}
use Rattle.fdf_words.specs.Numbers.{bad_line}
use Rattle.fdf_volumes.specs.Statements.{file_parts, head_with}
use Rattle.fdf_words.specs.Words.{is_close, word_of, after_word, after_equals, alignment_of}
use Rattle.build_base.specs.FaultCodes.{BAD_RULE, COMPRESSED_REFUSED, UNDEFINED_MACRO}

-- the names that are filled in when the rule is used
abbrev pub rule_names : List (List ℕ)
rule_names = codes "$(NAMED_GUID)" ∷ codes "$(INF_OUTPUT)" ∷ codes "$(MODULE_NAME)"
    ∷ codes "$(INF_VERSION)" ∷ codes "$(BUILD_NUMBER)" ∷ []

unfoldable pub begins_name : List ℕ → Bool
begins_name text = list_any (starts_with nat_eq text) rule_names

-- `$(` that begins none of these names
abbrev pub is_other : List ℕ → Bool
is_other text = starts_with nat_eq text (codes "$(") && not (begins_name text)

-- whether such a macro stands in a text
unfoldable pub holds_other : List ℕ → Bool
holds_other [] = false
holds_other (x ∷ xs) = is_other (x ∷ xs) || holds_other xs

abbrev pub other_macro : Taken → List ℕ → Option Fault
other_macro line text = if holds_other text then Some (bad_line UNDEFINED_MACRO line) else None

-- such a macro before a path, or in it behind `$(WORKSPACE)/`
abbrev pub other_around : Taken → List ℕ → Option Fault
other_around line path =
    if holds_other (take (length line.text - length path) line.text)
    || holds_other (without_workspace path) then Some (bad_line UNDEFINED_MACRO line) else None

abbrev pub no_rule_faults : Taken → List (Option Fault)
no_rule_faults line = other_macro line line.text ∷ Some (bad_line BAD_RULE line) ∷ []

-- the options of a section
abbrev pub rule_options : List (List ℕ × RuleOption)
rule_options = (codes "Optional", option.Optional) ∷ (codes "Align", option.Aligned)
    ∷ (codes "BUILD_NUM", option.BuildNumber) ∷ []

unfoldable pub rule_option : List ℕ → Option RuleOption
rule_option word = lookup rule_options word

unfoldable pub rule_align : List ℕ → Option Align
rule_align word = if same_word word (codes "Auto") then Some Auto
    else option_map Bytes (alignment_of word)

abbrev pub is_unset : Align → Bool
is_unset Unset = true
is_unset Auto = false
is_unset (Bytes n) = false

abbrev pub with_optional : RuleOptions → RuleOptions
with_optional options =
    record options { optional = true; wrong = options.wrong || options.optional }

abbrev pub with_rule_align : RuleOptions → Option Align → RuleOptions
with_rule_align options (Some align) = if is_unset options.align
    then record options { align = align } else record options { wrong = true }
with_rule_align options None = record options { wrong = true }

abbrev pub with_number : RuleOptions → RuleOptions
with_number options =
    record options { numbered = true; wrong = options.wrong || options.numbered }

-- of two numbers the first
abbrev pub first_number : RuleOptions → List ℕ → List ℕ → List ℕ
first_number options number word = if options.numbered then number else word

-- an option; another text begins the path
abbrev pub with_rule_option : RuleOptions → List ℕ → List ℕ → Option RuleOption → Option (List ℕ)
    → RuleOptions × List ℕ × List ℕ
with_rule_option options number text (Some option.Optional) value =
    (with_optional options, number, after_word text)
with_rule_option options number text (Some option.Aligned) (Some value) =
    (with_rule_align options (rule_align (word_of value)), number, after_word value)
with_rule_option options number text (Some option.BuildNumber) (Some value) =
    (with_number options, first_number options number (word_of value), after_word value)
with_rule_option options number text (Some option.Aligned) None = (options, number, text)
with_rule_option options number text (Some option.BuildNumber) None = (options, number, text)
with_rule_option options number text None value = (options, number, text)

unfoldable pub next_rule : RuleOptions → List ℕ → List ℕ → RuleOptions × List ℕ × List ℕ
next_rule options number text = with_rule_option options number text (rule_option (word_of text))
    (after_equals (after_word text))

abbrev pub and_rule : RuleOptions × List ℕ × List ℕ → RuleOptions × List ℕ × List ℕ
and_rule p = next_rule p.0 p.1 p.2

abbrev pub no_rule_options : RuleOptions
no_rule_options = record { optional = false; align = Unset; numbered = false; wrong = false }

-- the options, the build number as it is written, and what stands behind them; a fourth option
-- stands there twice
unfoldable pub rule_parts : List ℕ → RuleOptions × List ℕ × List ℕ
rule_parts text = and_rule (and_rule (and_rule (next_rule no_rule_options [] text)))

-- the kinds of sections of a rule; the compressed and the GUIDed ones are refused
abbrev pub rule_kinds : List (List ℕ × RuleKind)
rule_kinds =
    (codes "PE32", kind_.Plain EFI_SECTION_PE32) ∷ (codes "TE", kind_.Plain EFI_SECTION_TE)
    ∷ (codes "DXE_DEPEX", kind_.Plain EFI_SECTION_DXE_DEPEX)
    ∷ (codes "VERSION", kind_.Worded EFI_SECTION_VERSION)
    ∷ (codes "UI", kind_.Worded EFI_SECTION_USER_INTERFACE)
    ∷ (codes "FV_IMAGE", kind_.Plain EFI_SECTION_FIRMWARE_VOLUME_IMAGE)
    ∷ (codes "RAW", kind_.Plain EFI_SECTION_RAW)
    ∷ (codes "PEI_DEPEX", kind_.Plain EFI_SECTION_PEI_DEPEX)
    ∷ (codes "SMM_DEPEX", kind_.Plain EFI_SECTION_MM_DEPEX) ∷ (codes "COMPRESS", kind_.Compressed)
    ∷ (codes "GUIDED", kind_.Compressed) ∷ []

unfoldable pub rule_kind : List ℕ → Option RuleKind
rule_kind word = lookup rule_kinds word

abbrev pub made_plan : Taken → ℕ → RuleOptions → ℕ → SectionSource → Row
made_plan line kind options number source =
    row.RuleSection
    (record {
      at = line.at;
      kind = kind;
      optional = options.optional;
      align = options.align;
      number = number;
      guid = None;
      source = source;
    })

abbrev pub numbered_row : Taken → ℕ → RuleOptions → SectionSource → Result ℕ Fault → Option Row
numbered_row line kind options source (Ok number) =
    Some (made_plan line kind options number source)
numbered_row line kind options source (Err fault) = None

-- the number that the options state
abbrev pub number_in : Taken → RuleOptions → List ℕ → Result ℕ Fault
number_in line options number = stated_number line options.numbered number

-- `|.ext`, one word, which may stand but not be used
unfoldable pub is_extension : List ℕ → Bool
is_extension text = starts_with nat_eq text (codes "|.") && list_all (λ b. not (is_blank b)) text

-- a path behind two words, which are the same
abbrev pub path_fault : Taken → Bool → RuleOptions → List ℕ → Option Fault
path_fault line same options path =
    if options.wrong then least_of (no_rule_faults line)
    else if is_extension path then other_macro line line.text
    else if same && not (length path == 0) then other_around line path
    else least_of (no_rule_faults line)

abbrev pub path_faults : Taken → Bool → RuleOptions × List ℕ × List ℕ → List (Option Fault)
path_faults line same p = fault_in (number_in line p.0 p.1) ∷ path_fault line same p.0 p.2 ∷ []

abbrev pub path_source : Taken → List ℕ → SectionSource
path_source line path = if is_extension path then Refused line.text
    else Template (without_workspace path)

abbrev pub path_row : Taken → ℕ → RuleOptions × List ℕ × List ℕ → Option Row
path_row line kind p = numbered_row line kind p.0 (path_source line p.2) (number_in line p.0 p.1)

-- a text behind STRING, and nothing behind its options
abbrev pub text_fault : Taken → RuleOptions → List ℕ → Option Fault
text_fault line options rest =
    if options.wrong then least_of (no_rule_faults line)
    else if length rest == 0 then other_macro line line.text
    else least_of (no_rule_faults line)

abbrev pub text_faults : Taken → RuleOptions × List ℕ × List ℕ → List (Option Fault)
text_faults line p = fault_in (number_in line p.0 p.1) ∷ text_fault line p.0 p.2 ∷ []

abbrev pub text_row : Taken → ℕ → List ℕ → RuleOptions × List ℕ × List ℕ → Option Row
text_row line kind words p = numbered_row line kind p.0 (Words words) (number_in line p.0 p.1)

abbrev pub quoted_faults : Taken → Option (List ℕ × List ℕ) → List (Option Fault)
quoted_faults line (Some p) = text_faults line (rule_parts p.1)
quoted_faults line None = no_rule_faults line

abbrev pub quoted_row : Taken → ℕ → Option (List ℕ × List ℕ) → Option Row
quoted_row line kind (Some p) = text_row line kind p.0 (rule_parts p.1)
quoted_row line kind None = None

-- `="text"`
unfoldable pub stated_words : List ℕ → Option (List ℕ × List ℕ)
stated_words text = option_and_then quoted_front (after_equals text)

abbrev pub is_string : List ℕ → Bool
is_string word = same_word word (codes "STRING")

-- what follows a kind
abbrev pub plain_faults : Taken → List ℕ → List ℕ → List (Option Fault)
plain_faults line first text =
    path_faults line (same_word (word_of text) first) (rule_parts (after_word text))

abbrev pub plain_row : Taken → ℕ → List ℕ → Option Row
plain_row line kind text = path_row line kind (rule_parts (after_word text))

abbrev pub worded_faults : Taken → List ℕ → List ℕ → List (Option Fault)
worded_faults line first text = if is_string (word_of text)
    then quoted_faults line (stated_words (after_word text)) else plain_faults line first text

abbrev pub worded_row : Taken → ℕ → List ℕ → Option Row
worded_row line kind text = if is_string (word_of text)
    then quoted_row line kind (stated_words (after_word text)) else plain_row line kind text

abbrev pub kind_faults : Taken → List ℕ → List ℕ → Option RuleKind → List (Option Fault)
kind_faults line first text (Some (kind_.Plain kind)) = plain_faults line first text
kind_faults line first text (Some (kind_.Worded kind)) = worded_faults line first text
kind_faults line first text (Some kind_.Compressed) =
    other_macro line line.text ∷ Some (fault_of COMPRESSED_REFUSED line.at first) ∷ []
kind_faults line first text None = no_rule_faults line

abbrev pub kind_row : Taken → List ℕ → Option RuleKind → Option Row
kind_row line text (Some (kind_.Plain kind)) = plain_row line kind text
kind_row line text (Some (kind_.Worded kind)) = worded_row line kind text
kind_row line text (Some kind_.Compressed) = None
kind_row line text None = None

-- a line in the braces of the rule's file
abbrev pub inner_faults : Taken → List (Option Fault)
inner_faults line = if is_close line.text then []
    else kind_faults line (word_of line.text) (after_word line.text) (rule_kind (word_of line.text))

abbrev pub inner_row : Taken → Option Row
inner_row line = if is_close line.text then Some row.Closes
    else kind_row line (after_word line.text) (rule_kind (word_of line.text))

-- the rule's file, which has no name of its own
abbrev pub named_faults : Taken → Option (ℕ × List ℕ × Options) → List (Option Fault)
named_faults line (Some p) = if same_text p.1 (codes "$(NAMED_GUID)")
    then other_macro line line.text ∷ [] else no_rule_faults line
named_faults line None = no_rule_faults line

abbrev pub named_row : Taken → Option (ℕ × List ℕ × Options) → Option Row
named_row line (Some p) = Some (row.RuleFile (head_with line p.0 None p.2))
named_row line None = None

abbrev pub is_file : Bool → List ℕ → Bool
is_file unfiled word = unfiled && same_word word (codes "FILE")

-- a line outside of braces; a second file is none
abbrev pub outer_faults : Taken → Bool → List (Option Fault)
outer_faults line unfiled = if is_file unfiled (word_of line.text)
    then named_faults line (file_parts (after_word line.text)) else no_rule_faults line

abbrev pub outer_row : Taken → Option Row
outer_row line = named_row line (file_parts (after_word line.text))

abbrev pub faults_in : Taken → Bool → Open → List (Option Fault)
faults_in line unfiled InRule = inner_faults line
faults_in line unfiled _ = outer_faults line unfiled

abbrev pub row_in : Taken → Open → Option Row
row_in line InRule = inner_row line
row_in line _ = outer_row line

unfoldable pub rule_faults : Taken → Marks → List (Option Fault)
rule_faults line marks = faults_in line marks.unfiled marks.braces

unfoldable pub rule_row : Taken → Open → Option Row
rule_row line braces = row_in line braces
