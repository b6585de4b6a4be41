-- Walks with their places.
use Rattle.std.specs.Prelude.{◌≡◌, ℕ, zero, suc, ◌<◌, ◌≤◌, ◌⊎◌, map, List, [], ◌∷◌, ◌++◌, length, slice_index_or}
use Rattle.std.specs.List.{flat_map}
use Rattle.library_choice.specs.Found.{ends}

pub record Walk (X : Type 0) : Type 0 where
  pub places : List ℕ
  pub last : X

-- a walk and one step more, from place k on
abbrev pub steps_from : {X : Type 0} → ℕ → List ℕ → List X → List (Walk X)
steps_from k places [] = []
steps_from k places (x ∷ xs) = record { places = places ++ k ∷ []; last = x }
    ∷ steps_from (suc k) places xs

abbrev pub longer : {X : Type 0} → (X → List X) → Walk X → List (Walk X)
longer next w = steps_from 0 w.places (next w.last)

unfoldable pub walks : {X : Type 0} → (X → List X) → List X → ℕ → List (Walk X)
walks next starts zero = []
walks next starts (suc n) = steps_from 0 [] starts ++ flat_map (longer next) (walks next starts n)

abbrev pub Less : List ℕ → List ℕ → Type 0
Less [] ys = ⊥
Less (x ∷ xs) [] = ⊥
Less (x ∷ xs) (y ∷ ys) = (x < y) ⊎ ((x ≡ y) × Less xs ys)

-- the shorter, and of one length by places from the first on
abbrev pub Before : {X : Type 0} → Walk X → Walk X → Type 0
Before v w = (length v.places < length w.places)
    ⊎ ((length v.places ≡ length w.places) × Less v.places w.places)

abbrev pub Each : {A : Type 0} → (A → Type 0) → List A → Type 0
Each P [] = Unit {0}
Each P (x ∷ xs) = P x × Each P xs

abbrev pub Ascending : {A : Type 0} → (A → A → Type 0) → List A → Type 0
Ascending R [] = Unit {0}
Ascending R (x ∷ xs) = Each (R x) xs × Ascending R xs

abbrev pub Among : {A : Type 0} → List A → A → Type 0
Among [] a = ⊥
Among (x ∷ xs) a = (x ≡ a) ⊎ Among xs a

-- the first step is a start, each later one a next of the one before
pub data IsWalk {X : Type 0} (next : X → List X) (starts : List X) : Walk X → Type 0 where
  first : (k : ℕ) (x : X) → k < length starts → slice_index_or starts k x ≡ x
      → IsWalk next starts (record { places = k ∷ []; last = x })
  onward : (w : Walk X) (k : ℕ) (x : X) → IsWalk next starts w → k < length (next w.last)
      → slice_index_or (next w.last) k x ≡ x
      → IsWalk next starts (record { places = w.places ++ k ∷ []; last = x })

-- the ends of walks of 1 to n steps are those of a list of walks, which stand in their order and
-- are all that there are
pub record AreWalks {X : Type 0} (next : X → List X) (starts : List X) (n : ℕ) : Type 0 where
  pub ends_of : map (λ (w : Walk X). w.last) (walks next starts n) ≡ ends next starts n
  pub ascend : Ascending (Before {X = X}) (walks next starts n)
  pub whole : (w : Walk X) → IsWalk next starts w → length w.places ≤ n
      → Among (walks next starts n) w
