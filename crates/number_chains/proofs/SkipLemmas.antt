-- What a list comes to from a place on, where the items up to the next one of a number add nothing.
use Rattle.std.proofs.Common.{◌≡◌, ◌∙◌, ℕ, zero, suc, List, [], ◌∷◌, drop, map, refl, arith}
use Rattle.number_chains.specs.Chains.{IsNext}

-- the same of the list behind its first item
behind : (x : ℕ) (xs : List ℕ) (start number place : ℕ) → IsNext (x ∷ xs) (suc start) number (suc place) → IsNext xs start number place
behind x xs start number place h = record {
  above = omega (arith, h.above);
  between = λ k a b c. h.between (suc k) (omega arith) (omega arith) (omega arith);
  stands = λ c. h.stands (omega arith);
}

behind_first : (x : ℕ) (xs : List ℕ) (number place : ℕ) → IsNext (x ∷ xs) 0 number (suc place) → IsNext xs 0 number place
behind_first x xs number place h = record {
  above = omega arith;
  between = λ k a b c. h.between (suc k) (omega arith) (omega arith) (omega arith);
  stands = λ c. h.stands (omega arith);
}

pub skipped : {X R : Type 0} (f : List X → R) (number_of : X → ℕ) (number : ℕ) → ((x : X) (rest : List X) → (number_of x ≡ number → ⊥) → f (x ∷ rest) ≡ f rest)
    → (xs : List X) (start place : ℕ) → IsNext (map number_of xs) start number place → f (drop start xs) ≡ f (drop place xs)
skipped f number_of number adds [] zero zero h = refl
skipped f number_of number adds [] zero (suc place) h = refl
skipped f number_of number adds [] (suc start) zero h = refl
skipped f number_of number adds [] (suc start) (suc place) h = refl
skipped f number_of number adds (x ∷ xs) zero zero h = refl
skipped f number_of number adds (x ∷ xs) zero (suc place) h =
    adds x xs (h.between 0 (omega arith) (omega arith) (omega arith))
    ∙ skipped f number_of number adds xs 0 place (behind_first (number_of x) (map number_of xs) number place h)
skipped f number_of number adds (x ∷ xs) (suc start) zero h = absurd (omega (arith, h.above))
skipped f number_of number adds (x ∷ xs) (suc start) (suc place) h =
    skipped f number_of number adds xs start place (behind (number_of x) (map number_of xs) start number place h)
