-- What a table of INF files tells.
use Rattle.std.specs.Prelude.{◌≡◌, ℕ, List}
use Rattle.std.specs.HashMap.{HashMap, get}
use Rattle.doc_types.specs.declared.module.InfDoc.{InfDoc}
use Rattle.library_choice.specs.Closure.{known}
pub use Rattle.line_ranks.specs.Places.{same_key, picked_line, Lines, outweighs}

-- a table gives for each path the first INF file of it
abbrev pub Infs : {S : Type 0} → List InfDoc → HashMap (List ℕ) InfDoc S → Type 0
Infs infs table = (key : List ℕ) → get same_key table key ≡ known infs key
