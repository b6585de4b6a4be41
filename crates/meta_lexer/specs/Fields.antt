-- Fields between separators that stand outside quotes, parentheses and braces.
use Rattle.std.specs.Prelude.{◌≤◌, take, drop, ℕ, ◌+◌, ◌-◌, Bool, true, false, ◌&&◌, ◌||◌, not, ◌==◌, if◌then◌else◌, List, [], ◌∷◌, length, fold, Result, Ok, Err}
use Rattle.std.specs.List.{onto_first, suffix_len}
use Rattle.meta_lexer.specs.Faults.{Spot}
use Rattle.meta_lexer.specs.declared.field.Span.{Span}
use Rattle.meta_lexer.specs.declared.field.Open as open_type
use Rattle.build_base.specs.FaultCodes.{OPEN_QUOTE}

-- what is open after a text: a quote, and how many parentheses and braces
pub record Open : Type 0 where
  pub quoted : Bool
  pub depth : ℕ

abbrev pub open_view : open_type.Open → Open
open_view o = record { quoted = o.quoted; depth = o.depth }

abbrev pub nothing_open : Open
nothing_open = record { quoted = false; depth = 0 }

abbrev pub opens : ℕ → Bool
opens b = (b == 40) || (b == 123)

abbrev pub closes : ℕ → Bool
closes b = (b == 41) || (b == 125)

-- what is open after one byte more, where parentheses and braces nest or don't
abbrev pub after : Bool → Open → ℕ → Open
after nests o b =
    if b == 34 then record { quoted = not o.quoted; depth = o.depth }
    else if o.quoted || not nests then o
    else if opens b then record { quoted = false; depth = o.depth + 1 }
    else if closes b then record { quoted = false; depth = o.depth - 1 }
    else o

-- the byte separates fields where nothing is open
abbrev pub separates : ℕ → Open → ℕ → Bool
separates mark o b = (b == mark) && not o.quoted && (o.depth == 0)

-- the pieces between separators, where o is open before the text
unfoldable pub pieces_outside : Bool → ℕ → Open → List ℕ → List (List ℕ)
pieces_outside nests mark o [] = [] ∷ []
pieces_outside nests mark o (b ∷ bs) =
    if separates mark o b then [] ∷ pieces_outside nests mark (after nests o b) bs
    else onto_first b (pieces_outside nests mark (after nests o b) bs)

-- where the pieces stand, the first at the place `at`, with one byte between two
abbrev pub spans : ℕ → List (List ℕ) → List Span
spans at [] = []
spans at (p ∷ ps) = record { start = at; end = at + length p } ∷ spans (at + length p + 1) ps

-- the parts of a text between marks that stand outside quotes, and outside parentheses and braces
-- where these nest
abbrev pub parts_of : Bool → ℕ → List ℕ → List Span
parts_of nests mark text = spans 0 (pieces_outside nests mark nothing_open text)

-- a span that stands within a text, and its bytes
pub record IsWithin (text : List ℕ) (span : Span) : Type 0 where
  pub order : span.start ≤ span.end
  pub inside : span.end ≤ length text

abbrev pub bytes_at : List ℕ → Span → List ℕ
bytes_at text span = take (span.end - span.start) (drop span.start text)

-- whether a quote is open at the end of a text
unfoldable pub ends_quoted : List ℕ → Bool
ends_quoted text = fold (λ quoted b. if b == 34 then not quoted else quoted) false text

-- the fault of a text that ends in an open quote: from the last quote to the end
abbrev pub open_quote : List ℕ → Spot
open_quote text =
    record {
      code = OPEN_QUOTE;
      line = 1;
      start = length text - suffix_len (λ b. not (b == 34)) text - 1;
      end = length text;
    }

-- the fields of a line, between `|`
unfoldable pub fields_of : List ℕ → Result (List Span) Spot
fields_of text = if ends_quoted text then Err (open_quote text) else Ok (parts_of true 124 text)
