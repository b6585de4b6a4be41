-- One digit more of a number in base 16.
use Rattle.std.proofs.Common.{◌≡◌, refl, ap, arith, ℕ, zero, suc, ◌-◌, ◌/◌, ◌%◌, ◌++◌, [], ◌∷◌}
use Rattle.selftest_tree.specs.Texts.{hex_digit, hex_digits}

pub hex_more : (count k : ℕ) → (count ≡ 0 → ⊥) → hex_digits count k ≡ hex_digits (count - 1) (k / 16) ++ hex_digit (k % 16) ∷ []
unfolding hex_digits
hex_more zero k e = absurd (e refl)
hex_more (suc count) k e =
    let same : count ≡ suc count - 1 = omega arith in
    ap (λ z. hex_digits z (k / 16) ++ hex_digit (k % 16) ∷ []) same
