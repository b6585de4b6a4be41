-- The lines of a text.
use Rattle.std.specs.Prelude.{ℕ, ◌+◌, ◌-◌, Bool, false, ◌&&◌, ◌||◌, not, nat_lt, nat_le, ◌==◌, if◌then◌else◌, List, [], ◌∷◌, length, take, drop, slice_index, Option, Some, None, Result}
use Rattle.std.specs.List.{slice_split, prefix_len, suffix_len, position_or_len}
use Rattle.meta_lexer.specs.Faults.{Spot, each_or_first}
use Rattle.meta_lexer.specs.declared.line.Line.{Line}
use Rattle.build_base.specs.FaultCodes.{BAD_BYTE, LINE_TOO_LONG}

abbrev pub is_feed : ℕ → Bool
is_feed b = b == 10

abbrev pub is_blank : ℕ → Bool
is_blank b = (b == 9) || (b == 32)

-- what may stand outside comments
abbrev pub is_plain : ℕ → Bool
is_plain b = (b == 9) || (nat_le 32 b && nat_le b 126)

-- a piece of the text between line feeds: its number, where it starts, its bytes
pub record Piece : Type 0 where
  pub number : ℕ
  pub start : ℕ
  pub bytes : List ℕ

abbrev pub piece_of : ℕ → ℕ → List ℕ → Piece
piece_of n at xs = record { number = n; start = at; bytes = xs }

abbrev pub without_return : List ℕ → List ℕ
without_return xs = if slice_index xs (length xs - 1) == 13 then take (length xs - 1) xs else xs

-- a last piece that is empty is no line
unfoldable pub numbered : ℕ → ℕ → List (List ℕ) → List Piece
numbered n at [] = []
numbered n at (p ∷ []) = if length (without_return p) == 0 then []
    else record { number = n; start = at; bytes = p } ∷ []
numbered n at (p ∷ q ∷ more) = record { number = n; start = at; bytes = p }
    ∷ numbered (n + 1) (at + length p + 1) (q ∷ more)

abbrev pub pieces_from : ℕ → ℕ → List ℕ → List Piece
pieces_from n at bytes = numbered n at (slice_split is_feed bytes)

-- where a comment begins: at the first `#` outside double quotes, else at the end
unfoldable pub comment_from : Bool → List ℕ → ℕ
comment_from quoted [] = 0
comment_from quoted (b ∷ bs) =
    if (b == 35) && not quoted then 0
    else (1 + comment_from (if b == 34 then not quoted else quoted) bs)

abbrev pub before_comment : List ℕ → List ℕ
before_comment xs = take (comment_from false xs) xs

-- without the blanks at both ends
abbrev pub without_blanks : List ℕ → List ℕ
without_blanks xs =
    let ys = drop (prefix_len is_blank xs) xs in
    take (length ys - suffix_len is_blank ys) ys

-- the fault of a piece: a bad byte comes before a line that is too long
abbrev pub piece_fault : Piece → Option Spot
piece_fault p =
    let text = without_return p.bytes in
    let bad = position_or_len (λ b. not (is_plain b)) (before_comment text) in
    if nat_lt bad (length (before_comment text))
    then Some
    (record { code = BAD_BYTE; line = p.number; start = p.start + bad; end = p.start + bad + 1 })
    else if nat_lt 8192 (length text)
    then Some (record {
      code = LINE_TOO_LONG;
      line = p.number;
      start = p.start;
      end = p.start +
          length text;
    })
    else None

-- a line without where it lies
pub record TextLine : Type 0 where
  pub number : ℕ
  pub text : List ℕ

abbrev pub piece_line : Piece → TextLine
piece_line p =
    record { number = p.number; text = without_blanks (before_comment (without_return p.bytes)) }

abbrev pub line_view : Line → TextLine
line_view line = record { number = line.number; text = line.text.now }

-- the lines of a text, or the fault of the first piece that has one
unfoldable pub lines_of : List ℕ → Result (List TextLine) Spot
lines_of bytes = each_or_first piece_fault piece_line (pieces_from 1 0 bytes)
