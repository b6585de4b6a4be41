-- The bounds of the rules of the tests: what a step asks is of lower rank, and it asks one batch.
use Rattle.std.proofs.Common.{◌≡◌, ℕ, zero, suc, ◌≤◌, arith, Bool, true, false, refl}
use Rattle.build_stages.specs.Stages.{IsLower, AreBounded}
use Rattle.build_stages.specs.Bounds.{all_two}
use Rattle.engine_builds.specs.SmallRules.{small, is_file, first_ask, second_ask, rank_of}

least : (k : ℕ) → is_file k ≡ false → 2 ≤ k
least zero e = absurd (let f : true ≡ false = e in cc)
least (suc zero) e = absurd (let f : true ≡ false = e in cc)
least (suc (suc k)) e = omega arith

first_lower : (k : ℕ) (b : Bool) → is_file k ≡ b → IsLower rank_of (rank_of k) (first_ask k)
first_lower k true e = rw e tt
first_lower k false e = rw e (let l = least k e in omega (arith, l))

second_lower : (k : ℕ) (b : Bool) → is_file k ≡ b → IsLower rank_of (rank_of k) (second_ask k)
second_lower k true e = rw e tt
second_lower k false e = rw e (let l = least k e in omega (arith, l))

pub small_is_bounded : AreBounded small
small_is_bounded = record {
  lower = λ k. (
    all_two (IsLower rank_of (rank_of k)) (first_ask k) (second_ask k)
        (first_lower k (is_file k) refl) (second_lower k (is_file k) refl),
    λ given. tt,
  );
  within = λ k. (omega arith, λ given. tt);
}
