-- What holds of the elements that a loop has passed.
use Rattle.std.proofs.Common.{◌≡◌, ℕ, ◌+◌, ◌<◌, List, length, get_or, ◌∙◌, subst, arith, inl, inr}
use Rattle.std.proofs.lemmas.Bool.{cases_lt}
use Rattle.std.proofs.lemmas.List.{get_or_default}

-- and of one more
pub all_below_more : {X : Type 0} (P : X → Type 0) (xs : List X) (i : ℕ) (x : X) → i < length xs → x ≡ get_or xs i x
    → ((k : ℕ) (d : X) → k < i → P (get_or xs k d)) → P x → (k : ℕ) (d : X) → k < i + 1 → P (get_or xs k d)
all_below_more P xs i x h e all here k d lt =
    elim (cases_lt k i) [
      | inl below ↦ all k d below
      | inr le ↦
          let same : i ≡ k = omega arith in
          subst (λ n. P (get_or xs n d)) same (subst P (e ∙ get_or_default xs i x d h) here)
    ]
