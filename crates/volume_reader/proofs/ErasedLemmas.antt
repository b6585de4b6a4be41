-- Erased bytes, found from the back.
use Rattle.std.proofs.Common.{◌≡◌, ℕ, ◌+◌, ◌-◌, ◌<◌, ◌≤◌, ◌==◌, true, false, List, length, get_or, drop, refl, ap, ◌∙◌, arith, eq-eqb, ne_eqb, inl, inr, length-drop, nat_le}
use Rattle.std.proofs.lemmas.Bool.{cases_lt}
use Rattle.std.proofs.lemmas.Bool.Decides.{nat_tests}
use Rattle.std.proofs.lemmas.List.{drop_more, drop_all, get_or-drop}
use Rattle.std.proofs.lemmas.List.Folds.{list_all_at}
use Rattle.build_base.specs.Runs.{free_byte}
use Rattle.volume_reader.specs.Volume.{are_erased}

-- from all places from here on the bytes are erased
abbrev pub ErasedAfter : ℕ → List ℕ → ℕ → Type 0
ErasedAfter erase bytes end = (at : ℕ) → end ≤ at → are_erased erase (drop at bytes) ≡ true

pub erased_end : (erase : ℕ) (bytes : List ℕ) → ErasedAfter erase bytes (length bytes)
unfolding are_erased
erased_end erase bytes at h = rw (drop_all at bytes h) refl

erased_one : (erase : ℕ) (bytes : List ℕ) (k : ℕ) → k < length bytes → get_or bytes k 0 ≡ free_byte erase → are_erased erase (drop (k + 1) bytes) ≡ true → are_erased erase (drop k bytes) ≡ true
unfolding are_erased
erased_one erase bytes k h e more =
    let same : (get_or bytes k 0 == free_byte erase) ≡ true = eq-eqb (get_or bytes k 0) (free_byte erase) e in
    rw (drop_more bytes k 0 h, same) more

pub erased_more : (erase : ℕ) (bytes : List ℕ) (end : ℕ) → 0 < end → end ≤ length bytes → get_or bytes (end - 1) 0 ≡ free_byte erase → ErasedAfter erase bytes end → ErasedAfter erase bytes (end - 1)
erased_more erase bytes end some inside e after at h =
    elim (cases_lt at end) [
      | inl below ↦
          let k : at ≡ end - 1 = omega arith in
          let s : end - 1 + 1 ≡ end = omega arith in
          let m : are_erased erase (drop (end - 1 + 1) bytes) ≡ true = rw s (after end (omega arith)) in
          rw k (erased_one erase bytes (end - 1) (omega arith) e m)
      | inr le ↦ after at le
    ]

not_erased : (erase : ℕ) (bytes : List ℕ) (at k : ℕ) → at ≤ k → k < length bytes → (get_or bytes k 0 ≡ free_byte erase → ⊥) → are_erased erase (drop at bytes) ≡ false
unfolding are_erased
not_erased erase bytes at k a b d =
    let l = length-drop at bytes in
    let g : get_or (drop at bytes) (k - at) 0 ≡ get_or bytes k 0 = get_or-drop at bytes (k - at) 0 ∙ ap (λ i. get_or bytes i 0) (omega arith) in
    let other : (get_or (drop at bytes) (k - at) 0 == free_byte erase) ≡ false = rw g (ne_eqb (get_or bytes k 0) (free_byte erase) d) in
    list_all_at (λ b. b == free_byte erase) (drop at bytes) (k - at) 0 (omega arith) other

-- where the byte before is another, this is the least such place
pub erased_stop : (erase : ℕ) (bytes : List ℕ) (end : ℕ) → 0 < end → end ≤ length bytes → (get_or bytes (end - 1) 0 ≡ free_byte erase → ⊥) → ErasedAfter erase bytes end → (at : ℕ) → are_erased erase (drop at bytes) ≡ nat_le end at
erased_stop erase bytes end some inside d after at =
    elim (cases_lt at end) [
      | inl below ↦
          let t : nat_le end at ≡ false = grind (arith, nat_tests) in
          rw t (not_erased erase bytes at (end - 1) (omega arith) (omega arith) d)
      | inr le ↦ let t : nat_le end at ≡ true = grind (arith, nat_tests) in rw t (after at le)
    ]

pub erased_whole : (erase : ℕ) (bytes : List ℕ) (end : ℕ) → end ≡ 0 → ErasedAfter erase bytes end → (at : ℕ) → are_erased erase (drop at bytes) ≡ nat_le 0 at
erased_whole erase bytes end e after at = let t : nat_le 0 at ≡ true = grind (arith, nat_tests) in rw t (after at (omega arith))
