-- A number of a text, by which it is looked up and told apart.
use Rattle.std.specs.Prelude.{◌≡◌, ℕ, nat_eq, IsTrue, List, [], ◌∷◌}
use Rattle.std.specs.Cmp.Lexicographic.{pointwise}
use Rattle.std.specs.Hash as fed
use Rattle.std.specs.Hash.FoldHasher.{initial, write, finish}
use Rattle.std.proofs.Common.{rules, ap}

-- others may have it too
unfoldable pub digest : List ℕ → ℕ
digest text = finish (write initial text)

-- what a text writes to a hash: all at once
abbrev pub text_input : List ℕ → List (List ℕ)
text_input text = text ∷ []

pub equal_texts : (a b : List ℕ) → IsTrue (pointwise nat_eq a b) → text_input a ≡ text_input b
equal_texts a b e = ap text_input (search rules)

-- a path, its digest alone
abbrev pub path_input : List ℕ → List (List ℕ)
path_input path = fed.u64 (digest path)

pub equal_paths : (a b : List ℕ) → IsTrue (pointwise nat_eq a b) → path_input a ≡ path_input b
equal_paths a b e = ap path_input (search rules)
