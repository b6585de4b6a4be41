-- Tables of items by their names.
use Rattle.std.specs.Prelude.{◌≡◌, ℕ, Bool, true, List, [], map, filter, Option, Some, None}
use Rattle.std.specs.Cmp.Lexicographic.{slice_cmp}
use Rattle.std.specs.Ordering.{nat_cmp}
use Rattle.std.specs.declared.cmp.Ordering.{Ordering}
use Rattle.std.specs.Global.{Vec}
use Rattle.std.specs.HashMap.{HashMap, get}
use Rattle.std.specs.Str.{bytes_eq}
pub use Rattle.doc_types.specs.NameKeys.{same_key}
use Rattle.pcd_resolve.specs.NameFilter.{is_kept}

-- the order of names by their bytes
abbrev pub by_bytes : Vec ℕ → Vec ℕ → Ordering
by_bytes x y = slice_cmp nat_cmp x.items y.items

abbrev pub items_of : {V : Type 0} → Option (Vec V) → List V
items_of None = []
items_of (Some found) = found.items

-- what a table has at a key
abbrev pub group : {V S : Type 0} → HashMap (Vec ℕ) (Vec V) S → Vec ℕ → List V
group table key = items_of (get same_key table key)

-- A table has at each name the items of the list that have the name, in their order.
abbrev pub Grouped : {V X S : Type 0} → (V → X) → (X → List ℕ) → List X → HashMap (Vec ℕ) (Vec V) S
    → Type 0
Grouped view name xs table = (key : Vec ℕ) → map view (group table key)
    ≡ filter (λ x. bytes_eq (name x) key.items) xs

-- The same at each name that is kept.
abbrev pub GroupedAt : {V X S : Type 0} → List Bool → (V → X) → (X → List ℕ) → List X
    → HashMap (Vec ℕ) (Vec V) S → Type 0
GroupedAt marks view name xs table =
    (key : Vec ℕ) → is_kept marks key.items ≡ true
    → map view (group table key) ≡ filter (λ x. bytes_eq (name x) key.items) xs
