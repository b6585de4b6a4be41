-- Where walks by parents come to after many steps, in tables by places. A SKU on a circle is where
-- some walk comes to, however long.
use Rattle.std.specs.Prelude.{◌≡◌, ℕ, zero, suc, Bool, true, false, List, set, slice_get, Option, Some, None}
use Rattle.dsc_platform.specs.SkuWalks.{next_of, is_loop}

abbrev pub behind : List (Option ℕ) → Option ℕ → Option ℕ
behind parents None = None
behind parents (Some place) = next_of parents place

-- where so many steps lead to
abbrev pub walked : List (Option ℕ) → ℕ → Option ℕ → Option ℕ
walked parents zero place = place
walked parents (suc n) place = walked parents n (behind parents place)

-- a table of where each place's walk comes to after as many steps
pub record IsFar (parents far : List (Option ℕ)) : Type 0 where
  pub steps : ℕ
  pub leads : (place : ℕ) → next_of far place ≡ walked parents steps (Some place)

-- a place to which one of a table leads is marked
abbrev pub IsMarked : List Bool → Option ℕ → Type 0
IsMarked marks None = Unit {0}
IsMarked marks (Some place) = slice_get marks place ≡ Some false → ⊥

-- with one mark more, where its place is there
abbrev pub with_mark : List Bool → Option ℕ → List Bool
with_mark marks None = marks
with_mark marks (Some place) = set marks place true

-- a place without a mark is on no circle
abbrev pub Unlooped : List (Option ℕ) → List Bool → Type 0
Unlooped parents marks = (place : ℕ) → slice_get marks place ≡ Some false
    → is_loop parents place ≡ false
