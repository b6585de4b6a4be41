-- What the queue keeps.
use Rattle.std.specs.Prelude.{◌≡◌, ℕ, ◌≤◌, Bool, true, false, List, [], ◌∷◌, ◌++◌, length, take, Option, Some, None}
use Rattle.std.specs.List.{flat_map}
use Rattle.library_choice.specs.Found.{is_in, add, ends, found_in, IsFound}

-- the test decides sameness
pub record Same {X : Type 0} (eq : X → X → Bool) : Type 0 where
  pub same : (x y : X) → eq x y ≡ true → x ≡ y
  pub itself : (x : X) → eq x x ≡ true

-- all of xs are there
abbrev pub AllIn : {X : Type 0} → (X → X → Bool) → List X → List X → Type 0
AllIn eq b [] = Unit {0}
AllIn eq b (x ∷ xs) = (is_in eq b x ≡ true) × AllIn eq b xs

-- all nexts are there
abbrev pub Closed : {X : Type 0} → (X → X → Bool) → (X → List X) → List X → Type 0
Closed eq next b = AllIn eq b (flat_map next b)

pub record Prefix {X : Type 0} (front whole : List X) : Type 0 where
  pub more : List X
  pub is : whole ≡ front ++ more

-- begun with what was there and the starts; the nexts of the first of them are added
unfoldable pub grown : {X : Type 0} → (X → X → Bool) → (X → List X) → List X → List X → List X
    → List X
grown eq next there starts passed = add eq (add eq there starts) (flat_map next passed)

pub record Going {X : Type 0} (eq : X → X → Bool) (next : X → List X) (there starts found : List X)
    (at : ℕ) : Type 0 where
  pub within : at ≤ length found
  pub is : found ≡ grown eq next there starts (take at found)
  pub grounded : Prefix (take at found) (add eq there (ends next starts at))

-- nothing is left to pass
pub record Ended {X : Type 0} (eq : X → X → Bool) (next : X → List X) (b starts found : List X)
    : Type 0 where
  pub begins : Prefix b found
  pub closed : Closed eq next found
  pub whole : (n : ℕ) → length found ≤ n → add eq b (ends next starts n) ≡ found

abbrev pub Reason : {X : Type 0} → Bool → List X → ℕ → Type 0
Reason true found at = at ≡ length found
Reason false found at = 1025 ≤ length found

-- where the queue stands: at a place that the limit allows
pub record Stands {X : Type 0} (eq : X → X → Bool) (next : X → List X) (b starts found : List X)
    (at : ℕ) : Type 0 where
  pub going : Going eq next b starts found at
  pub early : at ≤ 1024

-- the queue went on from one place to its end, or until there were too many
abbrev pub Passed : {X : Type 0} → (X → X → Bool) → (X → List X) → List X → ℕ → List X → Bool
    → Type 0
Passed {X} eq next old from new whole =
    (b starts : List X) → Closed eq next b → Stands eq next b starts old from → (at : ℕ)
    × Stands eq next b starts new at × Reason whole new at

-- a queue has ended that begins from nothing, with few that are found
pub record First {X : Type 0} (eq : X → X → Bool) (next : X → List X) (starts found : List X)
    : Type 0 where
  pub ended : Ended eq next [] starts found
  pub few : length found ≤ 1024

-- all that is found, at most 1,024, or that there are more
abbrev pub Finds : {X : Type 0} → (X → X → Bool) → (X → List X) → List X → List X → Option (List X)
    → Type 0
Finds eq next classes nulls None = 1025 ≤ length (found_in eq next classes nulls 1025)
Finds eq next classes nulls (Some found) =
    (found ≡ found_in eq next classes nulls 1025) × (length found ≤ 1024) × Closed eq next found
    × IsFound eq next classes nulls found
