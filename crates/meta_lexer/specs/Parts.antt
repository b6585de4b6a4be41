-- The fields of a line and the words of a field.
use Rattle.std.specs.Prelude.{ℕ, true, List, [], ◌∷◌, ◌==◌, length, map, if◌then◌else◌}
use Rattle.std.specs.List.{flat_map, slice_split}
use Rattle.meta_lexer.specs.Fields.{parts_of, bytes_at}
use Rattle.meta_lexer.specs.Lines.{is_blank, without_blanks}

-- the first of some texts, empty where there is none
abbrev pub first_text : List (List ℕ) → List ℕ
first_text (text ∷ texts) = text
first_text [] = []

-- the fields between `|`, without their outer blanks
unfoldable pub field_texts : List ℕ → List (List ℕ)
field_texts text = map (λ span. without_blanks (bytes_at text span)) (parts_of true 124 text)

-- between two blanks there is no word
abbrev pub word_at : List ℕ → List (List ℕ)
word_at piece = if length piece == 0 then [] else piece ∷ []

abbrev pub words_among : List (List ℕ) → List (List ℕ)
words_among pieces = flat_map word_at pieces

-- the words between blanks
unfoldable pub words_of : List ℕ → List (List ℕ)
words_of text = words_among (slice_split is_blank text)
