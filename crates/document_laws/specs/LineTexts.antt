-- How the text of a line is put together of its parts, with any blanks between them.
use Rattle.std.specs.Prelude.{◌≡◌, ℕ, ◌==◌, true, false, not, List, [], ◌∷◌, ◌++◌}
use Rattle.std.specs.List.{list_all, prefix_len, suffix_len}
use Rattle.meta_lexer.specs.Lines.{is_blank}
use Rattle.fdf_words.specs.Keys.{is_key}
use Rattle.fdf_words.specs.Words.{begins_with, ends_word}

-- nothing but blanks
abbrev pub AreBlanks : List ℕ → Type 0
AreBlanks xs = list_all is_blank xs ≡ true

-- no blank stands at either end
pub record IsTrim (xs : List ℕ) : Type 0 where
  pub front : prefix_len is_blank xs ≡ 0
  pub back : suffix_len is_blank xs ≡ 0

-- two texts around the first `=`
pub record IsSplit (text name value : List ℕ) : Type 0 where
  pub before : List ℕ
  pub behind : List ℕ
  pub spelled : text ≡ name ++ (before ++ (61 ∷ (behind ++ value)))
  pub blank_before : AreBlanks before
  pub blank_behind : AreBlanks behind
  pub unequal : list_all (λ b. not (b == 61)) name ≡ true
  pub trim_name : IsTrim name
  pub trim_value : IsTrim value

-- `KEY = VALUE`: a key has letters, digits and `_`, and behind `=` no other `=` follows at once
pub record IsPair (text key value : List ℕ) : Type 0 where
  pub before : List ℕ
  pub behind : List ℕ
  pub spelled : text ≡ key ++ (before ++ (61 ∷ (behind ++ value)))
  pub blank_before : AreBlanks before
  pub blank_behind : AreBlanks behind
  pub key_is : is_key key ≡ true
  pub single : begins_with 61 (behind ++ value) ≡ false
  pub trim_value : IsTrim value

-- what may stand right behind a word: nothing, a blank or `=`
abbrev pub EndsWord : List ℕ → Type 0
EndsWord [] = Unit {0}
EndsWord (b ∷ bs) = ends_word b ≡ true

-- a word, and what follows it
pub record IsWorded (text word rest : List ℕ) : Type 0 where
  pub between : List ℕ
  pub spelled : text ≡ word ++ (between ++ rest)
  pub blank : AreBlanks between
  pub one_word : list_all (λ b. not (ends_word b)) word ≡ true
  pub ended : EndsWord (between ++ rest)
  pub trim : IsTrim rest

-- `= VALUE`
pub record IsStated (text value : List ℕ) : Type 0 where
  pub between : List ℕ
  pub spelled : text ≡ 61 ∷ (between ++ value)
  pub blank : AreBlanks between
  pub trim : IsTrim value

-- a text before a brace
pub record IsBraced (text front : List ℕ) : Type 0 where
  pub between : List ℕ
  pub spelled : text ≡ front ++ (between ++ (123 ∷ []))
  pub blank : AreBlanks between
  pub trim : IsTrim front
