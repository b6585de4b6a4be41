-- The first fault of a list of lines, whatever the conditions are, and what the lines give.
use Rattle.std.specs.Prelude.{Bool, true, false, List, [], ◌∷◌, ◌++◌, Option, Some, None}
use Rattle.build_base.specs.First.{or_else}

abbrev pub is_empty : {L : Type 0} → List L → Bool
is_empty [] = true
is_empty (l ∷ ls) = false

-- The fault of the first line that has one. A line's fault depends on the lines above it, on the
-- line and on whether it is the last.
abbrev pub lines_fault : {L F : Type 0} → (List L → L → Bool → Option F) → List L → List L
    → Option F
lines_fault fault above [] = None
lines_fault fault above (l ∷ ls) =
    or_else (fault above l (is_empty ls)) (lines_fault fault (above ++ l ∷ []) ls)

-- What each line gives, one after the other, where c is what the lines above come to.
abbrev pub each : {C L R : Type 0} → (C → L → C) → (C → L → List R) → C → List L → List R
each enter gives c [] = []
each enter gives c (l ∷ ls) = gives c l ++ each enter gives (enter c l) ls

-- the last of some
abbrev pub last_or : {R : Type 0} → Option R → List R → Option R
last_or o [] = o
last_or o (x ∷ xs) = last_or (Some x) xs

abbrev pub last_of : {R : Type 0} → List R → Option R
last_of xs = last_or None xs
