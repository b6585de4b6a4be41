-- Tokens of a text, and quoted texts.
use Rattle.std.specs.Prelude.{ℕ, zero, suc, ◌+◌, ◌-◌, min, Bool, true, false, ◌&&◌, ◌||◌, not, nat_lt, nat_le, ◌==◌, if◌then◌else◌, List, [], ◌∷◌, length, take, drop, slice_index, Option, Some, None, Result, Ok, Err}
use Rattle.std.specs.List.{list_all, prefix_len, position_or_len}
use Rattle.meta_lexer.specs.Faults.{Spot}
use Rattle.meta_lexer.specs.Lines.{is_blank}
use Rattle.meta_lexer.specs.Numbers.{is_digit}
use Rattle.meta_lexer.specs.Fields.{ends_quoted, open_quote}
use Rattle.meta_lexer.specs.Heads.{is_quoted}
use Rattle.meta_lexer.specs.declared.field.Span.{Span}
use Rattle.meta_lexer.specs.declared.token.Token.{Token}
use Rattle.meta_lexer.specs.declared.token.Front as code
use Rattle.meta_lexer.specs.declared.token.TokenKind.{TokenKind}
use Rattle.meta_lexer.specs.declared.token.TokenKind.TheVariants.{Word, Number, Quoted, Mark}

abbrev pub is_letter : ℕ → Bool
is_letter b = (nat_le 65 b && nat_le b 90) || (nat_le 97 b && nat_le b 122)

-- letters, digits and `_`
abbrev pub is_word_byte : ℕ → Bool
is_word_byte b = is_letter b || (nat_le 48 b && nat_le b 57) || (b == 95)

-- some digits of the base, as many as there may be
abbrev pub are_digits : ℕ → List ℕ → Bool
are_digits base ds = nat_lt 0 (length ds) && list_all (is_digit base) ds

-- `0x` and digits of base 16, or digits of base 10
unfoldable pub is_numeral : List ℕ → Bool
is_numeral xs =
    if nat_le 2 (length xs) && (slice_index xs 0 == 48) && (slice_index xs 1 == 120)
    then are_digits 16 (drop 2 xs) else are_digits 10 xs

-- a mark of two bytes: `||`, `&&`, `==`, `<<`, `>>`, `!=`, `<=` or `>=`
unfoldable pub is_pair : ℕ → ℕ → Bool
is_pair a b =
    if b == 61 then (a == 33) || (a == 60) || (a == 61) || (a == 62)
    else (a == b) && ((a == 38) || (a == 60) || (a == 62) || (a == 124))

-- how long the word, the quoted text or the mark is at the front of a text
abbrev pub word_size : List ℕ → ℕ
word_size xs = prefix_len is_word_byte xs

abbrev pub quoted_size : List ℕ → ℕ
quoted_size xs = min (position_or_len (λ b. b == 34) (drop 1 xs) + 2) (length xs)

abbrev pub mark_size : List ℕ → ℕ
mark_size xs = if nat_le 2 (length xs) && is_pair (slice_index xs 0) (slice_index xs 1) then 2
    else 1

pub record Front : Type 0 where
  pub kind : TokenKind
  pub size : ℕ

abbrev pub front_view : code.Front → Front
front_view f = record { kind = f.kind; size = f.size }

abbrev pub word_kind : List ℕ → TokenKind
word_kind word = if is_numeral word then Number else Word

-- the token at the front of a text that begins with no blank
unfoldable pub front_of : List ℕ → Front
front_of xs =
    if slice_index xs 0 == 34 then record { kind = Quoted; size = quoted_size xs }
    else if is_word_byte (slice_index xs 0)
    then record { kind = word_kind (take (word_size xs) xs); size = word_size xs }
    else record { kind = Mark; size = mark_size xs }

abbrev pub token_at : ℕ → Front → Token
token_at at f = record { kind = f.kind; start = at; end = at + f.size }

abbrev pub token_span : Token → Span
token_span token = record { start = token.start; end = token.end }

abbrev pub onward : ℕ → List ℕ → Bool → List Token → (ℕ → List Token) → List Token
onward at xs true after_blank after_token = after_blank
onward at xs false after_blank after_token =
    token_at at (front_of xs) ∷ after_token (front_of xs).size

-- the tokens of a text that stands at a place, but for those of its first k bytes
unfoldable pub tokens_after : ℕ → ℕ → List ℕ → List Token
tokens_after at k [] = []
tokens_after at (suc k) (b ∷ bs) = tokens_after (at + 1) k bs
tokens_after at zero (b ∷ bs) =
    onward at (b ∷ bs) (is_blank b) (tokens_after (at + 1) 0 bs)
    (λ n. tokens_after (at + 1) (n - 1) bs)

-- the tokens of a text, or the fault of a quote that is open at its end
unfoldable pub tokens_of : List ℕ → Result (List Token) Spot
tokens_of text = if ends_quoted text then Err (open_quote text) else Ok (tokens_after 0 0 text)

-- what stands within quotes, where a text is one quoted text
unfoldable pub quoted_of : List ℕ → Option Span
quoted_of text =
    if is_quoted text then Some (record { start = 1; end = length text - 1 }) else None
