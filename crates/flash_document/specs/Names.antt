-- Names of volumes and other things, compared without regard to case (EDK II FDF specification).
use Rattle.std.specs.Prelude.{◌≡◌, ℕ, ◌+◌, nat_eq, if◌then◌else◌, List, [], ◌∷◌, map, Option, Some, None}
use Rattle.std.specs.Char.{to_ascii_lowercase}
use Rattle.std.specs.Cmp.Lexicographic.{pointwise}
use Rattle.std.specs.Global.{Vec}
use Rattle.std.specs.HashMap.{HashMap, get}
pub use Rattle.doc_types.specs.NameKeys.{same_key}

abbrev pub lower_case : List ℕ → List ℕ
lower_case name = map to_ascii_lowercase name

-- the place of the first name that is a key in lower case
unfoldable pub place_from : ℕ → List ℕ → List (List ℕ) → Option ℕ
place_from n key [] = None
place_from n key (name ∷ names) = if pointwise nat_eq (lower_case name) key then Some n
    else place_from (n + 1) key names

-- the place of the first of some names that is this one
abbrev pub place_of : List (List ℕ) → List ℕ → Option ℕ
place_of names name = place_from 0 (lower_case name) names

-- a table gives the place of the first of each name
abbrev pub Places : {S : Type 0} → List (List ℕ) → HashMap (Vec ℕ) ℕ S → Type 0
Places names table = (key : Vec ℕ) → get same_key table key ≡ place_from 0 key.items names
