-- Walks by the places of parents: they end, since none meets itself.
use Rattle.std.proofs.Common.{◌≡◌, ◌∙◌, ◌≤◌, ◌<◌, ◌==◌, ◌||◌, eqb, ℕ, zero, suc, Bool, true, false, List, [], ◌∷◌, length, Option, Some, None, refl, sym, ap, arith}
use Rattle.std.specs.List.{list_any, AllByRecursion, IsDistinct}
use Rattle.std.proofs.lemmas.Bool.Decides.{nat_tests}
use Rattle.std.proofs.lemmas.Map.Steps.{length-le_from_distinct_below}
use Rattle.dsc_platform.specs.FarPlaces.{walked}
use Rattle.dsc_platform.specs.SkuWalks.{next_of, comes_by, is_loop}

-- the first places of a walk
abbrev trail : List (Option ℕ) → ℕ → Option ℕ → List ℕ
trail parents zero place = []
trail parents (suc n) None = []
trail parents (suc n) (Some place) = place ∷ trail parents n (next_of parents place)

pub walked_none : (parents : List (Option ℕ)) (n : ℕ) → walked parents n None ≡ None
walked_none parents zero = refl
walked_none parents (suc n) = walked_none parents n

pub none_some : (k : ℕ) → None ≡ Some k → ⊥
none_some k h = cc

-- a walk that goes on has come by as many places
trail_full : (parents : List (Option ℕ)) (n : ℕ) (place : Option ℕ) (end : ℕ) → walked parents n place ≡ Some end → length (trail parents (suc n) place) ≡ suc n
trail_full parents n None end e = absurd (none_some end (sym (walked_none parents n) ∙ e))
trail_full parents zero (Some place) end e = refl
trail_full parents (suc n) (Some place) end e = ap suc (trail_full parents n (next_of parents place) end e)

-- a walk that doesn't come by a place
apart : (parents : List (Option ℕ)) (target n : ℕ) (place : Option ℕ) → comes_by parents target n place ≡ false → AllByRecursion (λ y. eqb target y ≡ false) (trail parents n place)
unfolding comes_by
apart parents target zero place e = tt
apart parents target (suc n) None e = tt
apart parents target (suc n) (Some place) e = both (place == target) (comes_by parents target n (next_of parents place)) refl e (λ f. apart parents target n (next_of parents place) f)
  where
    both : (t b : Bool) → place == target ≡ t → (t || b) ≡ false → (b ≡ false → AllByRecursion (λ y. eqb target y ≡ false) (trail parents n (next_of parents place)))
        → AllByRecursion (λ y. eqb target y ≡ false) (place ∷ trail parents n (next_of parents place))
    both true b h f rest = absurd cc
    both false b h f rest = (grind (arith, nat_tests), rest f)

comes_less : (parents : List (Option ℕ)) (target n m : ℕ) (place : Option ℕ) → n ≤ m → comes_by parents target m place ≡ false → comes_by parents target n place ≡ false
unfolding comes_by
comes_less parents target zero m place h e = refl
comes_less parents target (suc n) zero place h e = absurd (omega (arith, h))
comes_less parents target (suc n) (suc m) None h e = refl
comes_less parents target (suc n) (suc m) (Some place) h e = less (place == target) e (λ f. comes_less parents target n m (next_of parents place) (omega (arith, h)) f)
  where
    less : (t : Bool) → (t || comes_by parents target m (next_of parents place)) ≡ false
        → (comes_by parents target m (next_of parents place) ≡ false → comes_by parents target n (next_of parents place) ≡ false)
        → (t || comes_by parents target n (next_of parents place)) ≡ false
    less true f rest = f
    less false f rest = rest f

-- none of its places stands twice
distinct : (parents : List (Option ℕ)) → ((p : ℕ) → is_loop parents p ≡ false) → (n : ℕ) → n ≤ suc (length parents) → (place : Option ℕ) → IsDistinct eqb (trail parents n place)
unfolding IsDistinct
distinct parents sound zero h place = tt
distinct parents sound (suc n) h None = tt
distinct parents sound (suc n) h (Some place) = (
  apart parents place n (next_of parents place) (comes_less parents place n (length parents) (next_of parents place) (omega (arith, h)) (sound place)),
  distinct parents sound n (omega (arith, h)) (next_of parents place),
)

-- each of its places is below the number of places
within : (parents : List (Option ℕ)) (count : ℕ) → ((p q : ℕ) → next_of parents p ≡ Some q → q < count) → (n : ℕ) (place : Option ℕ) → ((q : ℕ) → place ≡ Some q → q < count)
    → (q : ℕ) → list_any (eqb q) (trail parents n place) ≡ true → q < count
within parents count up zero place at q h = absurd cc
within parents count up (suc n) None at q h = absurd cc
within parents count up (suc n) (Some place) at q h = either (eqb q place) refl h (λ f. within parents count up n (next_of parents place) (up place) q f)
  where
    either : (t : Bool) → eqb q place ≡ t → (t || list_any (eqb q) (trail parents n (next_of parents place))) ≡ true
        → (list_any (eqb q) (trail parents n (next_of parents place)) ≡ true → q < count) → q < count
    either true t f rest = let same : place ≡ q = grind (arith, nat_tests) in at q (ap (λ k. Some k) same)
    either false t f rest = rest f

within_start : (start count q : ℕ) → start < count → Some start ≡ Some q → q < count
within_start start count q h e = let same : start ≡ q = cc in omega (arith, same, h)

-- a walk of which no place meets itself ends within as many steps as there are places
pub walk_ends : (parents : List (Option ℕ)) → ((p : ℕ) → is_loop parents p ≡ false) → ((p q : ℕ) → next_of parents p ≡ Some q → q < length parents)
    → (start : ℕ) → start < length parents → walked parents (length parents) (Some start) ≡ None
walk_ends parents sound up start h = ends (walked parents (length parents) (Some start)) refl
  where
    ends : (place : Option ℕ) → walked parents (length parents) (Some start) ≡ place → place ≡ None
    ends None e = refl
    ends (Some end) e =
        let full = trail_full parents (length parents) (Some start) end e in
        let few = length-le_from_distinct_below (trail parents (suc (length parents)) (Some start)) (length parents)
        (distinct parents sound (suc (length parents)) (omega arith) (Some start))
        (within parents (length parents) up (suc (length parents)) (Some start) (λ q g. within_start start (length parents) q h g)) in
        absurd (omega (arith, full, few))
