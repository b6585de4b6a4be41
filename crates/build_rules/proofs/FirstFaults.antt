-- The first fault among some, and what follows it.
use Rattle.std.proofs.Common.{◌≡◌, List, [], ◌∷◌, ◌++◌, map, Option, Some, None, Result, refl, ap, ◌∙◌}
use Rattle.build_base.specs.declared.fault.Fault.{Fault}
use Rattle.build_base.specs.First.{and_then, or_else, or_fault, first_of, with_front}

-- the first of two

pub none_both : {T : Type 0} (p q : Option T) → or_else p q ≡ None → (p ≡ None) × (q ≡ None)
none_both None q e = (refl, e)
none_both (Some x) q e = absurd cc

pub first_append : {T : Type 0} (xs ys : List (Option T)) → first_of (xs ++ ys) ≡ or_else (first_of xs) (first_of ys)
first_append [] ys = refl
first_append (None ∷ xs) ys = first_append xs ys
first_append (Some x ∷ xs) ys = refl

pub none_of : {X : Type 0} (xs : List X) → first_of {T = Fault} (map (λ x. None) xs) ≡ None
none_of [] = refl
none_of (x ∷ xs) = none_of xs

-- what follows no fault has to be the same only where there is none
pub or_same : {A : Type 0} (p q : Option Fault) (r s : Result A Fault) → p ≡ q → (q ≡ None → r ≡ s) → or_fault p r ≡ or_fault q s
or_same {A} p q r s e h =
    ap (λ t. or_fault t r) e
    ∙ (elim q as (λ t. (t ≡ None → r ≡ s) → or_fault t r ≡ or_fault t s) [
      | None ↦ λ h. h refl
      | Some fault ↦ λ h. refl
    ]) h

-- what all outcomes give, whose first one is at hand
pub fronts_same : {A : Type 0} (r s : Result A Fault) (t u : Result (List A) Fault) → r ≡ s → t ≡ u
    → and_then r (λ x. with_front (x ∷ []) t) ≡ and_then s (λ x. with_front (x ∷ []) u)
fronts_same {A} r s t u e h =
    ap (λ (r : Result A Fault). and_then r (λ x. with_front (x ∷ []) t)) e ∙ ap (λ (t : Result (List A) Fault). and_then s (λ x. with_front (x ∷ []) t)) h
