-- What tables of places tell.
use Rattle.std.specs.Prelude.{◌≡◌, ℕ, Bool, false, nat_lt, nat_eq, List, Option, Some, None, slice_get}
use Rattle.std.specs.Cmp.Lexicographic.{pointwise}
use Rattle.std.specs.HashMap.{HashMap, get}
use Rattle.build_base.specs.Best.{best}
use Rattle.doc_types.specs.declared.platform.LibraryLine.{LibraryLine}
use Rattle.line_ranks.specs.declared.user.Consumer.{Consumer}
use Rattle.line_ranks.specs.Lines.{rank, weight}

abbrev pub same_key : List ℕ → List ℕ → Bool
same_key = pointwise nat_eq

abbrev pub picked_line : {X : Type 0} → List X → Option ℕ → Option X
picked_line xs None = None
picked_line xs (Some place) = slice_get xs place

-- a table gives for each class the place of its line among those above
abbrev pub Lines : {S : Type 0} → Consumer → Bool → List LibraryLine → List LibraryLine
    → HashMap (List ℕ) ℕ S → Type 0
Lines user own lines above table =
    (key : List ℕ) → picked_line lines (get same_key table key) ≡ best (weight user own key) above

abbrev pub outweighs : Consumer → Bool → ℕ → Option LibraryLine → Bool
outweighs user own weight None = false
outweighs user own weight (Some held) = nat_lt weight (rank user own held)
