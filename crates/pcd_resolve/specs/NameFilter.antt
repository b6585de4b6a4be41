-- Names of which a table has the lines, by marks at places that names come to. Two names may come
-- to one place, so a table may have lines that nothing asks for.
use Rattle.std.specs.Prelude.{ℕ, Bool, true, false, List, fold, replicate, set, slice_get, Option, Some, None}
use Rattle.doc_types.specs.NamePlaces.{place_of}

-- a place that isn't among the marks counts as marked
abbrev pub mark_of : Option Bool → Bool
mark_of None = true
mark_of (Some mark) = mark

abbrev pub is_kept : List Bool → List ℕ → Bool
is_kept marks name = mark_of (slice_get marks (place_of name))

-- marks where none is set
unfoldable pub no_marks : List Bool
no_marks = replicate 2048 false

-- with one name more
abbrev pub with_mark : List Bool → List ℕ → List Bool
with_mark marks name = set marks (place_of name) true

-- with the names of a list
abbrev pub with_marks : List Bool → List (List ℕ) → List Bool
with_marks marks names = fold with_mark marks names
