-- Taking the first that may come gives the least order, for calls that don't need each other.
use Rattle.std.proofs.Common.{◌≡◌, ℕ, zero, suc, ◌<◌, ◌≤◌, Bool, true, false, not, cond, nat_lt, List, [], ◌∷◌, Option, Some, None, length, get_or, refl, subst, arith}
use Rattle.std.specs.List.{AllPairs, remove, position_or_len}
use Rattle.std.proofs.lemmas.List.Edits.{length-remove}
use Rattle.std.proofs.lemmas.List.Quantifiers.{position-Some, all_pairs_remove}
use Rattle.std.proofs.lemmas.List.Sums.{fails_before_first}
use Rattle.std.proofs.lemmas.Bool.{ltb-false}
use Rattle.library_calls.specs.Order.{IsIn, IsCallOrder, Sortable, waits, ready, turn, turns, call_order}
use Rattle.library_calls.proofs.OrderLemmas.{greedy, minimal, place_of, count-remove}

not-false : (b : Bool) → not b ≡ false → b ≡ true
not-false true e = refl
not-false false e = absurd (cc)

not-true : (b : Bool) → not b ≡ true → b ≡ false
not-true true e = absurd (cc)
not-true false e = refl

record Ready (before : ℕ → ℕ → Bool) (left : List ℕ) (place : ℕ) : Type 0 where
  within : place < length left
  free : waits before left (get_or left place 0) ≡ false
  first : (k : ℕ) → k < place → waits before left (get_or left k 0) ≡ true

ready_at : (before : ℕ → ℕ → Bool) (left : List ℕ) (place : ℕ) → ready before left ≡ Some place → Ready before left place
ready_at before left place e =
    let p = position-Some (λ x. not (waits before left x)) left place 0 e in
    record {
      within = p.0;
      free = not-true (waits before left (get_or left place 0)) p.1;
      first = λ k h. not-false (waits before left (get_or left k 0)) (p.2 k h);
    }

none-left : (b : Bool) (i : ℕ) → cond {A = Option ℕ} b (Some i) None ≡ None → b ≡ false
none-left true i e = absurd (cc)
none-left false i e = refl

-- where none may come, nothing is left
none-ready : (before : ℕ → ℕ → Bool) (items : List ℕ) (y : ℕ) (ys : List ℕ) → Sortable before items → ((x : ℕ) → IsIn (y ∷ ys) x → IsIn items x) → ready before (y ∷ ys) ≡ None → ⊥
none-ready before items y ys s inside e =
    let m = minimal before items (y ∷ ys) s inside (omega arith) in
    let at = place_of (y ∷ ys) m.0 0 m.1 in
    let far : length (y ∷ ys) ≤ position_or_len (λ x. not (waits before (y ∷ ys) x)) (y ∷ ys) = ltb-false (position_or_len (λ x. not (waits before (y ∷ ys) x)) (y ∷ ys)) (length (y ∷ ys)) (none-left (nat_lt (position_or_len (λ x. not (waits before (y ∷ ys) x)) (y ∷ ys)) (length (y ∷ ys))) (position_or_len (λ x. not (waits before (y ∷ ys) x)) (y ∷ ys)) e) in
    let fails : not (waits before (y ∷ ys) (get_or (y ∷ ys) at.0 0)) ≡ false = fails_before_first (λ x. not (waits before (y ∷ ys) x)) (y ∷ ys) at.0 0 (omega (arith, at.1, far)) in
    let waiting : waits before (y ∷ ys) m.0 ≡ true = subst (λ z. waits before (y ∷ ys) z ≡ true) at.2 (not-false (waits before (y ∷ ys) (get_or (y ∷ ys) at.0 0)) fails) in
    let free : waits before (y ∷ ys) m.0 ≡ false = m.2 in
    absurd (cc)

least-by : (before : ℕ → ℕ → Bool) (items : List ℕ) → Sortable before items → (n y : ℕ) (ys : List ℕ) → length ys ≡ n → AllPairs (λ x z. x < z) (y ∷ ys) → ((x : ℕ) → IsIn (y ∷ ys) x → IsIn items x)
    → ((left : List ℕ) → length left ≡ n → AllPairs (λ x z. x < z) left → ((x : ℕ) → IsIn left x → IsIn items x) → IsCallOrder before left (turns before n left))
    → (r : Option ℕ) → ready before (y ∷ ys) ≡ r → IsCallOrder before (y ∷ ys) (turn (y ∷ ys) (turns before n) r)
least-by before items s n y ys l up inside ih None e = absurd (none-ready before items y ys s inside e)
least-by before items s n y ys l up inside ih (Some place) e =
    let r = ready_at before (y ∷ ys) place e in
    let short : length (remove (y ∷ ys) place) ≡ n = omega (arith, l, length-remove (y ∷ ys) place r.within) in
    greedy before (y ∷ ys) place (turns before n (remove (y ∷ ys) place)) s.itself up r.within r.free r.first
    (ih (remove (y ∷ ys) place) short (all_pairs_remove (λ x z. x < z) (y ∷ ys) place r.within up)
    (λ x there. inside x (omega (arith, there, count-remove x (y ∷ ys) place 0 r.within))))

least : (before : ℕ → ℕ → Bool) (items : List ℕ) → Sortable before items → (n : ℕ) (left : List ℕ) → length left ≡ n → AllPairs (λ x z. x < z) left → ((x : ℕ) → IsIn left x → IsIn items x) → IsCallOrder before left (turns before n left)
unfolding turns
least before items s zero [] l up inside = record { fits = record { same = λ n. refl; respects = tt }; least = λ other o. tt }
least before items s zero (y ∷ ys) l up inside = absurd (omega (arith, l))
least before items s (suc n) [] l up inside = absurd (omega (arith, l))
least before items s (suc n) (y ∷ ys) l up inside = least-by before items s n y ys (omega (arith, l)) up inside (least before items s n) (ready before (y ∷ ys)) refl

pub call_order_least : (before : ℕ → ℕ → Bool) (items : List ℕ) → Sortable before items → AllPairs (λ x z. x < z) items → IsCallOrder before items (call_order before items)
call_order_least before items s up = least before items s (length items) items refl up (λ x h. h)
