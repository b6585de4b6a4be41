-- The exponent of an alignment.
use Rattle.std.proofs.Common.{◌≡◌, ℕ, ◌+◌, ◌*◌, ◌^◌, ◌<◌, ◌≤◌, refl, ap, arith, suc}
use Rattle.std.specs.Prelude.{nat_lt, unwrap_or}
use Rattle.std.proofs.lemmas.Bool.{lt-ltb, le-ltb}
use Rattle.std.proofs.Math.Pow.{pow_mono}
use Rattle.std.proofs.Math.Nat.{two-pow-succ}
use Rattle.build_base.proofs.Least.{find_least}
use Rattle.flash_document.specs.Document.{exponent}

doubles : (m k : ℕ) → m < k → 2 * 2 ^ m ≤ 2 ^ k
doubles m k l =
    let e : suc m ≤ k = omega (arith, l) in
    let d : 2 ^ suc m ≡ 2 ^ m + 2 ^ m = two-pow-succ m in
    omega (arith, d, pow_mono {i = suc m} {j = k} e)

pub exponent_is : (n e : ℕ) → 2 ^ e ≤ n → n < 2 * 2 ^ e → e < 64 → exponent n ≡ e
unfolding exponent
exponent_is n e low high bound =
    ap (λ o. unwrap_or o 0)
    (find_least (λ e. nat_lt n (2 * 2 ^ e)) 0 64 e (omega arith) (omega (arith, bound)) (lt-ltb n (2 * 2 ^ e) high)
    (λ m a b. le-ltb n (2 * 2 ^ m) (omega (arith, doubles m e b, low))))

pub exponent_none : (n : ℕ) → n ≡ 0 → 0 ≡ exponent n
unfolding exponent
exponent_none n e = rw e refl
