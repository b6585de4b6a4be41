-- Tables of names.
use Rattle.std.specs.Prelude.{◌≡◌, ℕ, List}
use Rattle.std.specs.Global.{Vec}
use Rattle.std.specs.HashMap.{HashMap, get}
pub use Rattle.doc_types.specs.NameKeys.{same_key}
use Rattle.dsc_lines.specs.SkuLines.{place_of}

-- a table gives where each name stands first
abbrev pub Placed : {S : Type 0} → List (List ℕ) → HashMap (Vec ℕ) ℕ S → Type 0
Placed names table = (key : Vec ℕ) → get same_key table key ≡ place_of key.items names
