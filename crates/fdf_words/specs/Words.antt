-- Words of a line, alignments and the options of a file (EDK II FDF specification, section 2.4 and
-- 3.7).
use Rattle.std.specs.Prelude.{ℕ, ◌-◌, ◌*◌, Bool, true, false, ◌&&◌, ◌||◌, nat_lt, nat_le, ◌==◌, if◌then◌else◌, List, [], ◌∷◌, length, take, drop, slice_index, Option, Some, None, codes}
use Rattle.std.specs.Int.{is_power_of_two}
use Rattle.std.specs.List.{position_or_len, list_all}
use Rattle.std.specs.Option.{option_map, option_and_then}
use Rattle.meta_lexer.specs.Lines.{is_blank, without_blanks}
use Rattle.meta_lexer.specs.Lookup.{lookup}
use Rattle.meta_lexer.specs.Numbers.{number_of}
use Rattle.doc_types.specs.declared.volume.Align.{Align}
use Rattle.doc_types.specs.declared.volume.Align.TheVariants.{Unset, Auto, Bytes}
use Rattle.fdf_words.specs.declared.words.FileOption.{FileOption}
use Rattle.fdf_words.specs.declared.words.FileOption.TheVariants.{Fixed, Checksum, Aligned}
use Rattle.fdf_words.specs.declared.words.Options.{Options}

-- a word ends at a blank or `=`
abbrev pub ends_word : ℕ → Bool
ends_word b = is_blank b || (b == 61)

-- the first word of a text, and what follows it
unfoldable pub word_of : List ℕ → List ℕ
word_of text = take (position_or_len ends_word text) text

unfoldable pub after_word : List ℕ → List ℕ
after_word text = without_blanks (drop (position_or_len ends_word text) text)

-- what follows `=`
unfoldable pub after_equals : List ℕ → Option (List ℕ)
after_equals text = if nat_lt 0 (length text) && (slice_index text 0 == 61)
    then Some (without_blanks (drop 1 text)) else None

abbrev pub last_byte : List ℕ → ℕ
last_byte text = slice_index text (length text - 1)

-- K or M at the end of a number
abbrev pub has_unit : List ℕ → Bool
has_unit text = (last_byte text == 75) || (last_byte text == 77)

abbrev pub unit_of : List ℕ → ℕ
unit_of text = if last_byte text == 75 then 0x400 else if last_byte text == 77 then 0x10_0000 else 1

abbrev pub digits_of : List ℕ → List ℕ
digits_of text = if has_unit text then take (length text - 1) text else text

abbrev pub is_decimal : ℕ → Bool
is_decimal b = nat_le 48 b && nat_le b 57

unfoldable pub decimal_of : List ℕ → Option ℕ
decimal_of text = if list_all is_decimal text then number_of text else None

-- an alignment is at most 2 ^ 31
abbrev pub scaled_number : ℕ → Option ℕ → Option ℕ
scaled_number unit (Some n) = if nat_le (n * unit) 0x8000_0000 then Some (n * unit) else None
scaled_number unit None = None

unfoldable pub alignment_of : List ℕ → Option ℕ
alignment_of text = scaled_number (unit_of text) (decimal_of (digits_of text))

-- of a volume it may also be in units of 2 ^ 30, and is a power of two
unfoldable pub scaled_of : List ℕ → Option ℕ
scaled_of text =
    if nat_lt 0 (length text) && (last_byte text == 71)
    then scaled_number 0x4000_0000 (decimal_of (take (length text - 1) text)) else alignment_of text

abbrev pub power_in : Option ℕ → Option ℕ
power_in (Some n) = if is_power_of_two n then Some n else None
power_in None = None

unfoldable pub volume_alignment : List ℕ → Option ℕ
volume_alignment text = power_in (scaled_of text)

-- `= number`, and what follows it
unfoldable pub stated_align : List ℕ → Option (ℕ × List ℕ)
stated_align text =
    option_and_then (λ t. option_map (λ n. (n, after_word t)) (alignment_of (word_of t)))
    (after_equals text)

abbrev pub file_options : List (List ℕ × FileOption)
file_options = (codes "FIXED", Fixed) ∷ (codes "CHECKSUM", Checksum) ∷ (codes "Align", Aligned) ∷ []

unfoldable pub option_named : List ℕ → Option FileOption
option_named word = lookup file_options word

abbrev pub is_unset : Align → Bool
is_unset Unset = true
is_unset Auto = false
is_unset (Bytes n) = false

abbrev pub with_align : Options → Option (ℕ × List ℕ) → Option (Options × List ℕ)
with_align options (Some p) = if is_unset options.align
    then Some (record options { align = Bytes p.0 }, p.1) else None
with_align options None = None

-- with one option more, which isn't there yet
abbrev pub with_option : Options → List ℕ → Option FileOption → Option (Options × List ℕ)
with_option options rest (Some Fixed) = if options.fixed then None
    else Some (record options { fixed = true }, rest)
with_option options rest (Some Checksum) = if options.checksum then None
    else Some (record options { checksum = true }, rest)
with_option options rest (Some Aligned) = with_align options (stated_align rest)
with_option options rest None = None

-- with the first option of a text, if it isn't empty
unfoldable pub next_option : Options → List ℕ → Option (Options × List ℕ)
next_option options text = if length text == 0 then Some (options, text)
    else with_option options (after_word text) (option_named (word_of text))

abbrev pub no_options : Options
no_options = record { fixed = false; checksum = false; align = Unset }

abbrev pub and_option : Option (Options × List ℕ) → Option (Options × List ℕ)
and_option = option_and_then (λ p. next_option p.0 p.1)

abbrev pub options_whole : Options × List ℕ → Option Options
options_whole p = if length p.1 == 0 then Some p.0 else None

-- FIXED, CHECKSUM and `Align = n`, in any order, each at most once
unfoldable pub options_of : List ℕ → Option Options
options_of text = option_and_then options_whole
    (and_option (and_option (next_option no_options text)))

-- what stands before the brace at the end
unfoldable pub before_brace : List ℕ → Option (List ℕ)
before_brace text = if nat_lt 0 (length text) && (last_byte text == 123)
    then Some (without_blanks (take (length text - 1) text)) else None

abbrev pub begins_with : ℕ → List ℕ → Bool
begins_with b text = nat_lt 0 (length text) && (slice_index text 0 == b)

-- `}` alone
abbrev pub is_close : List ℕ → Bool
is_close text = (length text == 1) && (slice_index text 0 == 125)
