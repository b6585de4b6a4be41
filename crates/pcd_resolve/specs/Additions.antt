-- Tables of items by their names, with one item more.
use Rattle.std.specs.Prelude.{◌≡◌, ◌++◌, ◌∷◌, ℕ, Bool, nat_eq, true, cond, List, []}
use Rattle.std.specs.Cmp.Lexicographic.{pointwise}
use Rattle.std.specs.Global.{Vec}
use Rattle.std.specs.HashMap.{HashMap, get_by}
use Rattle.std.specs.Str.{bytes_eq}
use Rattle.pcd_resolve.specs.Groups.{group, items_of}
use Rattle.pcd_resolve.specs.NameFilter.{is_kept}

-- what a table has at a name
abbrev pub named : {V S : Type 0} → HashMap (Vec ℕ) (Vec V) S → List ℕ → List V
named table name = items_of (get_by (λ key. pointwise nat_eq name key.items) table)

-- A table has one item more at a name, as far as names that are kept show it.
abbrev pub AddsAt : {V S : Type 0} → List Bool → List ℕ → V → HashMap (Vec ℕ) (Vec V) S
    → HashMap (Vec ℕ) (Vec V) S → Type 0
AddsAt marks name item old new = (key : Vec ℕ) → is_kept marks key.items ≡ true
    → group new key ≡ cond (bytes_eq name key.items) (named old name ++ item ∷ []) (group old key)
