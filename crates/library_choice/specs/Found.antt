-- The ends of all walks, in the order of walks, each at its first place.
use Rattle.std.specs.Prelude.{◌≡◌, ℕ, zero, suc, ◌≤◌, Bool, if◌then◌else◌, List, [], ◌∷◌, ◌++◌, length}
use Rattle.std.specs.List.{list_any, flat_map}

abbrev pub is_in : {X : Type 0} → (X → X → Bool) → List X → X → Bool
is_in eq xs x = list_any (λ y. eq y x) xs

abbrev pub put : {X : Type 0} → (X → X → Bool) → List X → X → List X
put eq found x = if is_in eq found x then found else (found ++ x ∷ [])

-- each of xs that is not there yet
unfoldable pub add : {X : Type 0} → (X → X → Bool) → List X → List X → List X
add eq found [] = found
add eq found (x ∷ xs) = add eq (put eq found x) xs

-- the ends of the walks of 1 to n steps: the shorter first, those of one length by their places
unfoldable pub ends : {X : Type 0} → (X → List X) → List X → ℕ → List X
ends next starts zero = []
ends next starts (suc n) = starts ++ flat_map next (ends next starts n)

-- walks that begin with a class, then walks that begin with a NULL line, of 1 to n steps
unfoldable pub found_in : {X : Type 0} → (X → X → Bool) → (X → List X) → List X → List X → ℕ
    → List X
found_in eq next classes nulls n = add eq [] (ends next classes n ++ ends next nulls n)

-- what is found in n steps, for every n from the number of the found on
abbrev pub IsFound : {X : Type 0} → (X → X → Bool) → (X → List X) → List X → List X → List X
    → Type 0
IsFound eq next classes nulls found = (n : ℕ) → length found ≤ n
    → found_in eq next classes nulls n ≡ found
