-- A pool of texts, each once, in the order in which they are first used. The rule is this project's
-- own.
use Rattle.std.specs.Prelude.{ℕ, Bool, List, [], ◌∷◌, ◌++◌, nat_eq, fold, if◌then◌else◌}
use Rattle.std.specs.List.{list_any, position_or_len}
use Rattle.std.specs.Cmp.Lexicographic.{pointwise}

-- whether the texts are the same
unfoldable pub text_is : List ℕ → List ℕ → Bool
text_is text other = pointwise nat_eq text other

unfoldable pub has_text : List (List ℕ) → List ℕ → Bool
has_text pool text = list_any (text_is text) pool

-- the pool with a text at its end, unless it is there
unfoldable pub with_text : List (List ℕ) → List ℕ → List (List ℕ)
with_text pool text = if has_text pool text then pool else pool ++ text ∷ []

abbrev pub with_texts : List (List ℕ) → List (List ℕ) → List (List ℕ)
with_texts pool texts = fold with_text pool texts

-- the texts, each once, in the order in which they are first used
abbrev pub pool_of : List (List ℕ) → List (List ℕ)
pool_of texts = with_texts [] texts

-- the place of a text, or the number of texts where it isn't there
unfoldable pub number_in : List (List ℕ) → List ℕ → ℕ
number_in pool text = position_or_len (text_is text) pool
