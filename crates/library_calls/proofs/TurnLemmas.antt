-- One turn of the order of calls.
use Rattle.std.proofs.Common.{◌≡◌, ◌∙◌, ℕ, zero, suc, ◌+◌, ◌<◌, Bool, List, [], ◌∷◌, ◌++◌, length, get_or, Some, None, refl, sym, ap, arith}
use Rattle.std.specs.List.{remove, range_with_len}
use Rattle.std.proofs.lemmas.List.Edits.{length-remove}
use Rattle.library_calls.specs.Order.{ready, turn, turns, call_order}

pub turns_step : (before : ℕ → ℕ → Bool) (left : List ℕ) (place : ℕ) → Some place ≡ ready before left → place < length left → call_order before left ≡ get_or left place 0 ∷ call_order before (remove left place)
unfolding turns
turns_step before [] place e h = absurd (omega (arith, h))
turns_step before (x ∷ xs) place e h =
    let n : length xs ≡ length (remove (x ∷ xs) place) = omega (arith, h, length-remove (x ∷ xs) place h) in
    ap (turn (x ∷ xs) (turns before (length xs))) (sym e) ∙ ap (λ k. get_or (x ∷ xs) place 0 ∷ turns before k (remove (x ∷ xs) place)) n

pub turns_end : (before : ℕ → ℕ → Bool) (left : List ℕ) → None ≡ ready before left → call_order before left ≡ []
unfolding turns
turns_end before [] e = refl
turns_end before (x ∷ xs) e = ap (turn (x ∷ xs) (turns before (length xs))) (sym e)

range-suc : (a n : ℕ) → range_with_len a (suc n) ≡ range_with_len a n ++ (a + n) ∷ []
range-suc a zero = let z : a ≡ a + 0 = omega arith in ap (λ x. x ∷ []) z
range-suc a (suc n) =
    let z : a + 1 + n ≡ a + suc n = omega arith in
    ap (λ l. a ∷ l) (range-suc (a + 1) n ∙ ap (λ x. range_with_len (a + 1) n ++ x ∷ []) z)

-- one place more
pub places-push : (n : ℕ) → range_with_len 0 (n + 1) ≡ range_with_len 0 n ++ n ∷ []
places-push n =
    let more : n + 1 ≡ suc n = omega arith in
    let z : 0 + n ≡ n = omega arith in
    ap (range_with_len 0) more ∙ range-suc 0 n ∙ ap (λ x. range_with_len 0 n ++ x ∷ []) z
