-- Which tokens a text has, without saying how they are found: blanks and tokens, one behind the
-- other.
use Rattle.std.specs.Prelude.{◌≡◌, ◌<◌, ℕ, ◌+◌, ◌==◌, true, false, not, List, [], ◌∷◌, ◌++◌, length}
use Rattle.std.specs.List.{list_all}
use Rattle.meta_lexer.specs.Lines.{is_blank}
use Rattle.meta_lexer.specs.Tokens.{is_word_byte, is_numeral, is_pair}
use Rattle.meta_lexer.specs.declared.token.Token.{Token}
use Rattle.meta_lexer.specs.declared.token.TokenKind.{TokenKind}
use Rattle.meta_lexer.specs.declared.token.TokenKind.TheVariants.{Word, Number, Quoted, Mark}

-- no byte of a word begins what follows
abbrev pub EndsAtWord : List ℕ → Type 0
EndsAtWord [] = Unit {0}
EndsAtWord (b ∷ bs) = is_word_byte b ≡ false

-- letters, digits and `_`, as many as there are
pub record IsLongest (piece rest : List ℕ) : Type 0 where
  pub some : 0 < length piece
  pub bytes : list_all is_word_byte piece ≡ true
  pub longest : EndsAtWord rest

-- two quotes, and no quote between them
pub record IsQuotedPiece (piece : List ℕ) : Type 0 where
  pub within : List ℕ
  pub spelled : piece ≡ 34 ∷ (within ++ (34 ∷ []))
  pub unquoted : list_all (λ b. not (b == 34)) within ≡ true

-- a byte that begins no word and no quoted text, and that is no blank
pub record BeginsMark (b : ℕ) : Type 0 where
  pub no_blank : is_blank b ≡ false
  pub no_quote : (b == 34) ≡ false
  pub no_word : is_word_byte b ≡ false

-- it makes no mark of two bytes with what follows
abbrev pub StandsAlone : ℕ → List ℕ → Type 0
StandsAlone a [] = Unit {0}
StandsAlone a (b ∷ bs) = is_pair a b ≡ false

abbrev pub IsMarkPiece : List ℕ → List ℕ → Type 0
IsMarkPiece (a ∷ []) rest = BeginsMark a × StandsAlone a rest
IsMarkPiece (a ∷ b ∷ []) rest = BeginsMark a × (is_pair a b ≡ true)
IsMarkPiece piece rest = ⊥

-- a piece before the rest of a text is a token of this kind
abbrev pub IsToken : TokenKind → List ℕ → List ℕ → Type 0
IsToken Word piece rest = IsLongest piece rest × (is_numeral piece ≡ false)
IsToken Number piece rest = IsLongest piece rest × (is_numeral piece ≡ true)
IsToken Quoted piece rest = IsQuotedPiece piece
IsToken Mark piece rest = IsMarkPiece piece rest

-- the tokens of a text that stands at a place
abbrev pub AreTokens : ℕ → List ℕ → List Token → Type 0
AreTokens at text [] = list_all is_blank text ≡ true
AreTokens at text (token ∷ tokens) =
    (blanks : List ℕ) × (piece : List ℕ) × (rest : List ℕ) × (text ≡ blanks ++ (piece ++ rest))
    × (list_all is_blank blanks ≡ true) × IsToken token.kind piece rest
    × (token.start ≡ at + length blanks) × (token.end ≡ token.start + length piece)
    × AreTokens token.end rest tokens
