-- The order of calls: at each turn the first that may come. It is the least that respects `before`.
use Rattle.std.specs.Prelude.{◌≡◌, ◌==◌, ℕ, zero, suc, ◌+◌, ◌<◌, ◌⊎◌, Bool, true, false, not, if◌then◌else◌, List, [], ◌∷◌, length, slice_index_or, position, remove, Option, Some, None}
use Rattle.std.specs.List.{list_any}

-- something that is left must come before x
abbrev pub waits : (ℕ → ℕ → Bool) → List ℕ → ℕ → Bool
waits before left x = list_any (λ y. before y x) left

-- the place of the first that may come
abbrev pub ready : (ℕ → ℕ → Bool) → List ℕ → Option ℕ
ready before left = position (λ x. not (waits before left x)) left

abbrev pub turn : List ℕ → (List ℕ → List ℕ) → Option ℕ → List ℕ
turn left rest None = []
turn left rest (Some place) = slice_index_or left place 0 ∷ rest (remove left place)

unfoldable pub turns : (ℕ → ℕ → Bool) → ℕ → List ℕ → List ℕ
turns before zero left = []
turns before (suc n) left = turn left (turns before n) (ready before left)

abbrev pub call_order : (ℕ → ℕ → Bool) → List ℕ → List ℕ
call_order before items = turns before (length items) items

-- how often a number stands in a list
abbrev pub count : ℕ → List ℕ → ℕ
count n [] = 0
count n (x ∷ xs) = (if x == n then 1 else 0) + count n xs

abbrev pub IsIn : List ℕ → ℕ → Type 0
IsIn xs x = 0 < count x xs

-- nothing that stands later must come before
abbrev pub Respects : (ℕ → ℕ → Bool) → List ℕ → Type 0
Respects before [] = Unit {0}
Respects before (x ∷ xs) = ((y : ℕ) → IsIn xs y → before y x ≡ false) × Respects before xs

pub record IsOrder (before : ℕ → ℕ → Bool) (items order : List ℕ) : Type 0 where
  pub same : (n : ℕ) → count n order ≡ count n items
  pub respects : Respects before order

-- compared from the front
abbrev pub NotAfter : List ℕ → List ℕ → Type 0
NotAfter [] ys = Unit {0}
NotAfter (x ∷ xs) [] = ⊥
NotAfter (x ∷ xs) (y ∷ ys) = (x < y) ⊎ ((x ≡ y) × NotAfter xs ys)

pub record IsCallOrder (before : ℕ → ℕ → Bool) (items order : List ℕ) : Type 0 where
  pub fits : IsOrder before items order
  pub least : (other : List ℕ) → IsOrder before items other → NotAfter order other

-- no two must come before each other, and what comes before what comes before comes before
pub record Sortable (before : ℕ → ℕ → Bool) (items : List ℕ) : Type 0 where
  pub itself : (x : ℕ) → before x x ≡ false
  pub one_way : (x y : ℕ) → IsIn items x → IsIn items y → before x y ≡ true → before y x ≡ false
  pub onward : (x y z : ℕ) → before x y ≡ true → before y z ≡ true → before x z ≡ false → x ≡ z
