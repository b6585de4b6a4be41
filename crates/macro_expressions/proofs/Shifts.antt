-- Shifts by as many bits as a number has, or more.
use Rattle.std.proofs.Common.{◌≡◌, ℕ, ◌-◌, ◌*◌, ◌/◌, ◌^◌, ◌<◌, ◌≤◌, cond, sym, ap, arith}
use Rattle.std.proofs.lemmas.Bool.{le-ltb}
use Rattle.std.proofs.Math.Pow.{pow_mono}
use Rattle.std.proofs.Math.Nat.{div-eq_of_lt, div-lt_iff_lt-mul}
use Rattle.macro_expressions.specs.Values.{number, faulty, fitting}
use Rattle.build_base.specs.FaultCodes.{VALUE_RANGE}

pub quotient_none : (a b : ℕ) → a < 2 ^ 64 → 64 ≤ b → 0 ≡ a / 2 ^ b
quotient_none a b l h = let p : 2 ^ 64 ≤ 2 ^ b = pow_mono h in sym (div-eq_of_lt (omega arith))

past : (n : ℕ) → 2 ^ 64 ≤ n → faulty VALUE_RANGE ≡ fitting n
past n h = ap (λ b. cond b (number n) (faulty VALUE_RANGE)) (sym (le-ltb n (2 ^ 64) h))

product_ge : (a p : ℕ) → 0 < a → p ≤ a * p
product_ge a p h = grind arith

pub shl_far : (a b : ℕ) → (a ≡ 0 → ⊥) → 64 ≤ b → faulty VALUE_RANGE ≡ fitting (a * 2 ^ b)
shl_far a b n h = let p : 2 ^ 64 ≤ 2 ^ b = pow_mono h in past (a * 2 ^ b) (omega (arith, product_ge a (2 ^ b) (omega arith)))

pub shl_over : (a b : ℕ) → (2 ^ 64 - 1) / 2 ^ b < a → faulty VALUE_RANGE ≡ fitting (a * 2 ^ b)
shl_over a b h =
    let q : 0 < 2 ^ b = omega (arith, pow_mono {i = 0} {j = b} (omega arith)) in
    let r : 2 ^ 64 - 1 < a * 2 ^ b = (div-lt_iff_lt-mul q).0 h in
    past (a * 2 ^ b) (omega (arith, r))
