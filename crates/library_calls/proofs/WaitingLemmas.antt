-- Who waits for none, and what is left once one has come.
use Rattle.std.proofs.Common.{rules, tests, ◌≡◌, ◌∙◌, ◌==◌, ◌||◌, ℕ, zero, suc, ◌+◌, ◌-◌, ◌<◌, Bool, true, false, cond, not, List, [], ◌∷◌, ◌++◌, map, length, take, drop, get_or, nat_lt, remove, Some, None, refl, sym, ap, arith}
use Rattle.std.proofs.lemmas.List.{map-append, take-map, drop-map, length-map}
use Rattle.std.proofs.lemmas.List.Quantifiers.{position-Some}
use Rattle.std.specs.List.{position_or_len}
use Rattle.library_calls.specs.declared.order.Waiting.{Waiting}
use Rattle.library_calls.specs.Order.{waits, ready, call_order}
use Rattle.library_calls.proofs.TurnLemmas.{turns_step, turns_end}
use Rattle.library_calls.specs.Waiting.{count_before, wait_of, waits_of, places_of, first_free, without}

none-by : (v : Bool) (n : ℕ) (rest : Bool) → (n == 0) ≡ not rest → (cond v 1 0 + n == 0) ≡ not (v || rest)
none-by true n rest e = let later : (1 + n == 0) ≡ false = search (rules, tests) in later
none-by false n rest e = let same : 0 + n ≡ n = omega arith in ap (λ k. k == 0) same ∙ e

-- nobody waits exactly where the count is 0
pub free-waits : (before : ℕ → ℕ → Bool) (left : List ℕ) (x : ℕ) → (count_before before left x == 0) ≡ not (waits before left x)
free-waits before [] x = refl
free-waits before (y ∷ ys) x = none-by (before y x) (count_before before ys x) (waits before ys x) (free-waits before ys x)

place-map : (before : ℕ → ℕ → Bool) (left xs : List ℕ) → position_or_len (λ (w : Waiting). w.count == 0) (map (wait_of before left) xs) ≡ position_or_len (λ x. not (waits before left x)) xs
place-map before left [] = refl
place-map before left (x ∷ xs) =
    ap (λ v. cond (not v) (1 + position_or_len (λ (w : Waiting). w.count == 0) (map (wait_of before left) xs)) 0) (free-waits before left x)
    ∙ ap (λ n. cond (not (not (waits before left x))) (1 + n) 0) (place-map before left xs)

-- the first that waits for none is the first that may come
pub free-ready : (before : ℕ → ℕ → Bool) (left : List ℕ) → first_free (waits_of before left) ≡ ready before left
free-ready before left =
    ap (λ n. cond (nat_lt n (length (waits_of before left))) (Some n) None) (place-map before left left)
    ∙ ap (λ n. cond (nat_lt (position_or_len (λ x. not (waits before left x)) left) n) (Some (position_or_len (λ x. not (waits before left x)) left)) None) (length-map left (wait_of before left))

-- one that has come is waited for no more
count-remove : (before : ℕ → ℕ → Bool) (left : List ℕ) (place x : ℕ) → place < length left → count_before before (remove left place) x + cond (before (get_or left place 0) x) 1 0 ≡ count_before before left x
count-remove before [] place x h = absurd (omega arith)
count-remove before (y ∷ ys) zero x h = omega arith
count-remove before (y ∷ ys) (suc place) x h = omega (arith, count-remove before ys place x (omega arith))

abbrev at-count : ℕ → ℕ → Waiting
at-count x n = record { place = x; count = n }

without-by : (v : Bool) (x n m : ℕ) → m + cond v 1 0 ≡ n → cond v (at-count x (n - 1)) (at-count x n) ≡ at-count x m
without-by true x n m e = let k : n - 1 ≡ m = omega (arith, e) in ap (at-count x) k
without-by false x n m e = let k : n ≡ m = omega (arith, e) in ap (at-count x) k

without-wait : (before : ℕ → ℕ → Bool) (left : List ℕ) (place x : ℕ) → place < length left → without before (get_or left place 0) (wait_of before left x) ≡ wait_of before (remove left place) x
without-wait before left place x h = without-by (before (get_or left place 0) x) x (count_before before left x) (count_before before (remove left place) x) (count-remove before left place x h)

all-without : (before : ℕ → ℕ → Bool) (left : List ℕ) (place : ℕ) (xs : List ℕ) → place < length left → map (without before (get_or left place 0)) (map (wait_of before left) xs) ≡ map (wait_of before (remove left place)) xs
all-without before left place [] h = refl
all-without before left place (x ∷ xs) h =
    ap (λ w. w ∷ map (without before (get_or left place 0)) (map (wait_of before left) xs)) (without-wait before left place x h)
    ∙ ap (λ ws. wait_of before (remove left place) x ∷ ws) (all-without before left place xs h)

remove-waits : (before : ℕ → ℕ → Bool) (left xs : List ℕ) (place : ℕ) → remove (map (wait_of before left) xs) place ≡ map (wait_of before left) (remove xs place)
remove-waits before left xs place =
    ap (λ front. front ++ drop (suc place) (map (wait_of before left) xs)) (take-map (wait_of before left) place xs)
    ∙ ap (λ rest. map (wait_of before left) (take place xs) ++ rest) (drop-map (wait_of before left) (suc place) xs)
    ∙ sym (map-append (wait_of before left) (take place xs) (drop (suc place) xs))

-- who waits once one has come
pub waits-remove : (before : ℕ → ℕ → Bool) (left : List ℕ) (place : ℕ) → place < length left → map (without before (get_or left place 0)) (remove (waits_of before left) place) ≡ waits_of before (remove left place)
waits-remove before left place h =
    ap (map (without before (get_or left place 0))) (remove-waits before left left place)
    ∙ all-without before left place (remove left place) h

pub places-waits : (before : ℕ → ℕ → Bool) (left xs : List ℕ) → places_of (map (wait_of before left) xs) ≡ xs
places-waits before left [] = refl
places-waits before left (x ∷ xs) = ap (λ ys. x ∷ ys) (places-waits before left xs)

pub place-waits : (before : ℕ → ℕ → Bool) (left xs : List ℕ) (place : ℕ) (d : Waiting) → place < length xs → (get_or (map (wait_of before left) xs) place d).place ≡ get_or xs place 0
place-waits before left [] place d h = absurd (omega arith)
place-waits before left (x ∷ xs) zero d h = refl
place-waits before left (x ∷ xs) (suc place) d h = place-waits before left xs place d (omega arith)

-- one turn: the first that waits for none comes, and nobody waits for it any more
pub turn-waits : (before : ℕ → ℕ → Bool) (ws vs : List Waiting) (place : ℕ) (next : Waiting) → ws ≡ waits_of before (places_of ws) → Some place ≡ first_free ws → next ≡ get_or ws place next → vs ≡ map (without before next.place) (remove ws place) → (vs ≡ waits_of before (places_of vs)) × (call_order before (places_of ws) ≡ next.place ∷ call_order before (places_of vs))
turn-waits before ws vs place next e free is new =
    let left = places_of ws in
    let found : Some place ≡ ready before left = free ∙ ap first_free e ∙ free-ready before left in
    let within : place < length left = (position-Some (λ x. not (waits before left x)) left place 0 (sym found)).0 in
    let at : next.place ≡ get_or left place 0 = ap (λ (w : Waiting). w.place) is ∙ ap (λ (l : List Waiting). (get_or l place next).place) e ∙ place-waits before left left place next within in
    let all : vs ≡ waits_of before (remove left place) =
    new ∙ ap (λ y. map (without before y) (remove ws place)) at
    ∙ ap (λ (l : List Waiting). map (without before (get_or left place 0)) (remove l place)) e
    ∙ waits-remove before left place within in
    let places : places_of vs ≡ remove left place = ap places_of all ∙ places-waits before (remove left place) (remove left place) in (
      all ∙ ap (waits_of before) (sym places),
      turns_step before left place found within
          ∙ ap (λ y. y ∷ call_order before (remove left place)) (sym at)
          ∙ ap (λ l. next.place ∷ call_order before l) (sym places),
    )

pub turn-none : (before : ℕ → ℕ → Bool) (ws : List Waiting) → ws ≡ waits_of before (places_of ws) → None ≡ first_free ws → call_order before (places_of ws) ≡ []
turn-none before ws e free = turns_end before (places_of ws) (free ∙ ap first_free e ∙ free-ready before (places_of ws))
