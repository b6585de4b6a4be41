-- The means of the order of calls: for each that is left, how many of those that are left must come
-- before it.
use Rattle.std.specs.Prelude.{◌==◌, ℕ, ◌+◌, ◌-◌, Bool, if◌then◌else◌, List, [], ◌∷◌, map, position, Option}
use Rattle.library_calls.specs.declared.order.Waiting.{Waiting}

abbrev pub count_before : (ℕ → ℕ → Bool) → List ℕ → ℕ → ℕ
count_before before [] x = 0
count_before before (y ∷ ys) x = (if before y x then 1 else 0) + count_before before ys x

abbrev pub wait_of : (ℕ → ℕ → Bool) → List ℕ → ℕ → Waiting
wait_of before left x = record { place = x; count = count_before before left x }

abbrev pub waits_of : (ℕ → ℕ → Bool) → List ℕ → List Waiting
waits_of before left = map (wait_of before left) left

abbrev pub places_of : List Waiting → List ℕ
places_of ws = map (λ w. w.place) ws

-- the place of the first that waits for none
abbrev pub first_free : List Waiting → Option ℕ
first_free left = position (λ w. w.count == 0) left

-- one that is left once y has come
abbrev pub without : (ℕ → ℕ → Bool) → ℕ → Waiting → Waiting
without before y w =
    if before y w.place then record { place = w.place; count = w.count - 1 } else w
