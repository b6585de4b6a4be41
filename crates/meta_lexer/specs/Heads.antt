-- Heads of sections.
use Rattle.std.specs.Prelude.{ℕ, ◌-◌, Bool, false, ◌&&◌, not, nat_lt, nat_le, ◌==◌, if◌then◌else◌, List, length, take, drop, slice_index, map, Option, Some, None, Result, Ok, Err}
use Rattle.std.specs.List.{list_all}
use Rattle.meta_lexer.specs.Faults.{Spot}
use Rattle.meta_lexer.specs.Lines.{without_blanks}
use Rattle.meta_lexer.specs.Fields.{parts_of, bytes_at, ends_quoted}
use Rattle.meta_lexer.specs.declared.field.Span.{Span}
use Rattle.meta_lexer.specs.declared.head.Head.{Head}
use Rattle.build_base.specs.FaultCodes.{BAD_SECTION}

-- what stands between two marks at the ends of a text
abbrev pub inner : List ℕ → List ℕ
inner text = take (length text - 2) (drop 1 text)

abbrev pub stands_between : ℕ → ℕ → List ℕ → Bool
stands_between first last text = nat_le 2 (length text) && (slice_index text 0 == first)
    && (slice_index text (length text - 1) == last)

-- one quoted text: nothing but its outer quotes are quotes
abbrev pub is_quoted : List ℕ → Bool
is_quoted text = stands_between 34 34 text && list_all (λ b. not (b == 34)) (inner text)

-- one quoted text loses its quotes, and any other part stays as written
unfoldable pub without_quotes : List ℕ → List ℕ
without_quotes part = if is_quoted part then inner part else part

abbrev pub part_at : List ℕ → Span → List ℕ
part_at text span = without_quotes (without_blanks (bytes_at text span))

-- a name and its qualifiers, between dots outside quotes
unfoldable pub head_of : List ℕ → Head
head_of text = record { parts = map (part_at text) (parts_of false 46 text) }

-- the heads of a section, between commas outside quotes
unfoldable pub heads_of : List ℕ → List Head
heads_of text = map (λ span. head_of (bytes_at text span)) (parts_of false 44 text)

-- a name, and at most three qualifiers, none of them empty
unfoldable pub is_head : Head → Bool
is_head head = nat_le (length head.parts) 4 && list_all (λ part. nat_lt 0 (length part)) head.parts

abbrev pub are_heads : List ℕ → Bool
are_heads text = not (ends_quoted text) && list_all is_head (heads_of text)

abbrev pub bad_head : List ℕ → Spot
bad_head text = record { code = BAD_SECTION; line = 1; start = 0; end = length text }

-- whether a line is a section's head, also a wrong one
abbrev pub begins_section : List ℕ → Bool
begins_section text = nat_lt 0 (length text) && (slice_index text 0 == 91)

unfoldable pub section_of : List ℕ → Result (Option (List Head)) Spot
section_of text =
    if not (begins_section text) then Ok None
    else if stands_between 91 93 text && are_heads (inner text)
    then Ok (Some (heads_of (inner text)))
    else Err (bad_head text)
