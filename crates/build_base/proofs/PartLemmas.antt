-- Parts of bytes.
use Rattle.std.proofs.Common.{◌≡◌, ◌∙◌, ◌+◌, ◌-◌, ℕ, zero, suc, List, [], ◌∷◌, length, take, drop, min, arith, ap, sym, take_all}
use Rattle.std.proofs.lemmas.List.{take_min, drop_min, drop-drop}

pub part_within : {X : Type 0} (start count : ℕ) (xs : List X)
    → take (min count (length (drop (min start (length xs)) xs))) (drop (min start (length xs)) xs) ≡ take count (drop start xs)
part_within start count xs = take_min count (drop (min start (length xs)) xs) ∙ ap (take count) (drop_min start xs)

-- what is left of the first ones
drop_of_take : {X : Type 0} (m n : ℕ) (xs : List X) → drop n (take m xs) ≡ take (m - n) (drop n xs)
drop_of_take m zero xs = ap (λ k. take k xs) (omega arith)
drop_of_take zero (suc n) xs = let none : 0 ≡ zero - suc n = omega arith in ap (λ k. take k (drop (suc n) xs)) none
drop_of_take (suc m) (suc n) [] = sym (take_all (suc m - suc n) [] (omega arith))
drop_of_take (suc m) (suc n) (x ∷ xs) = let on : m - n ≡ suc m - suc n = omega arith in drop_of_take m n xs ∙ ap (λ k. take k (drop n xs)) on

-- the first ones of the first ones
take_twice : {X : Type 0} (m n : ℕ) (xs : List X) → take m (take n xs) ≡ take (min m n) xs
take_twice zero n xs = let none : 0 ≡ min zero n = omega arith in ap (λ k. take k xs) none
take_twice (suc m) zero xs = let none : 0 ≡ min (suc m) zero = omega arith in ap (λ k. take k xs) none
take_twice (suc m) (suc n) [] = sym (take_all (min (suc m) (suc n)) [] (omega arith))
take_twice (suc m) (suc n) (x ∷ xs) = let on : suc (min m n) ≡ min (suc m) (suc n) = omega arith in
    ap (λ l. x ∷ l) (take_twice m n xs) ∙ ap (λ k. take k (x ∷ xs)) on

pub part_of_part : {X : Type 0} (from most start count : ℕ) (xs : List X)
    → take count (drop start (take most (drop from xs))) ≡ take (min count (most - start)) (drop (from + start) xs)
part_of_part from most start count xs =
    ap (take count) (drop_of_take most start (drop from xs) ∙ ap (take (most - start)) (drop-drop start from xs))
    ∙ take_twice count (most - start) (drop (from + start) xs)
