-- Laws of the greatest.
use Rattle.std.proofs.Common.{◌≡◌, map, ℕ, zero, suc, ◌+◌, ◌<◌, ◌≤◌, Bool, true, false, nat_lt, nat_le, cond, List, [], ◌∷◌, ◌++◌, Option, Some, None, length, get_or, drop, refl, sym, ap, ◌∙◌, subst, arith}
use Rattle.std.proofs.lemmas.List.{at_drop_more, drop_all, get_or_default}
use Rattle.std.proofs.lemmas.Bool.{ltb-true, ltb-false, leb-true, leb-false}
use Rattle.build_base.proofs.Steps.{head_drop}
use Rattle.build_base.specs.Best.{counted, over, best, IsGreatest, Greatest}

pub over-none : {X : Type 0} (w : X → ℕ) (a : Option X) → over w a None ≡ a
over-none w None = refl
over-none w (Some x) = refl

three : {X : Type 0} (w : X → ℕ) (x y z : X) (p q r : Bool) → nat_le (w x) (w y) ≡ p → nat_le (w y) (w z) ≡ q → nat_le (w x) (w z) ≡ r → over w (Some x) (cond q (Some z) (Some y)) ≡ over w (cond p (Some y) (Some x)) (Some z)
three w x y z true true true a b c = rw (b, c) refl
three w x y z true true false a b c = absurd (omega (arith, leb-true (w x) (w y) a, leb-true (w y) (w z) b, leb-false (w x) (w z) c))
three w x y z true false r a b c = rw (a, b) refl
three w x y z false true r a b c = refl
three w x y z false false true a b c = absurd (omega (arith, leb-false (w x) (w y) a, leb-false (w y) (w z) b, leb-true (w x) (w z) c))
three w x y z false false false a b c = rw (a, c) refl

pub over_assoc : {X : Type 0} (w : X → ℕ) (a b c : Option X) → over w a (over w b c) ≡ over w (over w a b) c
over_assoc w None b c = refl
over_assoc w (Some x) None c = refl
over_assoc w (Some x) (Some y) None = sym (over-none w (cond (nat_le (w x) (w y)) (Some y) (Some x)))
over_assoc w (Some x) (Some y) (Some z) = three w x y z (nat_le (w x) (w y)) (nat_le (w y) (w z)) (nat_le (w x) (w z)) refl refl refl

pub best-append : {X : Type 0} (w : X → ℕ) (xs ys : List X) → best w (xs ++ ys) ≡ over w (best w xs) (best w ys)
unfolding best
best-append w [] ys = refl
best-append w (x ∷ xs) ys = ap (over w (counted w x)) (best-append w xs ys) ∙ over_assoc w (counted w x) (best w xs) (best w ys)

pub best_more : {X : Type 0} (w : X → ℕ) (xs : List X) (i : ℕ) (d : X) (held : Option X) → i < length xs → over w held (best w (drop i xs)) ≡ over w (over w held (counted w (get_or xs i d))) (best w (drop (i + 1) xs))
unfolding best
best_more w xs i d held h =
    ap (over w held) (at_drop_more (best w) xs i d h) ∙ over_assoc w held (counted w (get_or xs i d)) (best w (drop (i + 1) xs))

pub best_end : {X : Type 0} (w : X → ℕ) (xs : List X) (i : ℕ) (held : Option X) → length xs ≤ i → over w held (best w (drop i xs)) ≡ held
unfolding best
best_end w xs i held h = ap (λ r. over w held (best w r)) (drop_all i xs h) ∙ over-none w held

at_each : (P : ℕ → Type 0) → P 0 → ((k : ℕ) → P (suc k)) → (k : ℕ) → P k
at_each P z s zero = z
at_each P z s (suc k) = s k

-- the places of a list with one item in front
cons-later : {X : Type 0} (w : X → ℕ) (x : X) (xs : List X) (y : X) → w x ≤ w y → IsGreatest w xs y → IsGreatest w (x ∷ xs) y
cons-later w x xs y l g = record {
  place = suc g.place;
  within = omega (arith, g.within);
  is = g.is;
  counts = g.counts;
  most = at_each (λ k. k < length (x ∷ xs) → w (get_or (x ∷ xs) k y) ≤ w y) (λ h. l) (λ k h. g.most k (omega arith));
  last = at_each (λ k. suc g.place < k → k < length (x ∷ xs) → w (get_or (x ∷ xs) k y) < w y) (λ p h. absurd (omega arith)) (λ k p h. g.last k (omega arith) (omega arith));
}

cons-here : {X : Type 0} (w : X → ℕ) (x : X) (xs : List X) → 0 < w x → ((k : ℕ) → k < length xs → w (get_or xs k x) < w x) → IsGreatest w (x ∷ xs) x
cons-here w x xs c below = record {
  place = 0;
  within = omega arith;
  is = refl;
  counts = c;
  most = at_each (λ k. k < length (x ∷ xs) → w (get_or (x ∷ xs) k x) ≤ w x) (λ h. omega arith) (λ k h. let b : w (get_or xs k x) < w x = below k (omega arith) in omega arith);
  last = at_each (λ k. 0 < k → k < length (x ∷ xs) → w (get_or (x ∷ xs) k x) < w x) (λ p h. absurd (omega arith)) (λ k p h. below k (omega arith));
}

choose : {X : Type 0} (w : X → ℕ) (x : X) (xs : List X) (y : X) (b : Bool) → nat_le (w x) (w y) ≡ b → 0 < w x → IsGreatest w xs y → Greatest w (x ∷ xs) (cond b (Some y) (Some x))
choose w x xs y true e c g = cons-later w x xs y (leb-true (w x) (w y) e) g
choose w x xs y false e c g = cons-here w x xs c (λ k h. let m : w (get_or xs k y) ≤ w y = g.most k h in let n : w (get_or xs k x) ≤ w y = rw (get_or_default xs k x y h) m in omega (arith, n, leb-false (w x) (w y) e))

cons : {X : Type 0} (w : X → ℕ) (x : X) (xs : List X) (b : Bool) → nat_lt 0 (w x) ≡ b → (r : Option X) → Greatest w xs r → Greatest w (x ∷ xs) (over w (cond b (Some x) None) r)
cons w x xs false e None g = λ k d h. at_each (λ k. k < length (x ∷ xs) → w (get_or (x ∷ xs) k d) ≡ 0) (λ l. omega (arith, ltb-false 0 (w x) e)) (λ k l. g k d (omega arith)) k h
cons w x xs false e (Some y) g = cons-later w x xs y (omega (arith, ltb-false 0 (w x) e)) g
cons w x xs true e None g = cons-here w x xs (ltb-true 0 (w x) e) (λ k h. let z : w (get_or xs k x) ≡ 0 = g k x h in omega (arith, z, ltb-true 0 (w x) e))
cons w x xs true e (Some y) g = choose w x xs y (nat_le (w x) (w y)) refl (ltb-true 0 (w x) e) g

pub best-greatest : {X : Type 0} (w : X → ℕ) (xs : List X) → Greatest w xs (best w xs)
unfolding best
best-greatest w [] = λ k d h. absurd (omega arith)
best-greatest w (x ∷ xs) = cons w x xs (nat_lt 0 (w x)) refl (best w xs) (best-greatest w xs)

-- the greatest counts
pub best-counts : {X : Type 0} (w : X → ℕ) (xs : List X) (x : X) → best w xs ≡ Some x → 0 < w x
best-counts w xs x e = (subst (λ r. Greatest w xs r) e (best-greatest w xs)).counts

-- the same of a list that is seen
pub best_seen_more : {X Y : Type 0} (w : Y → ℕ) (f : X → Y) (xs : List X) (i : ℕ) (x : X) (held : Option Y) → i < length xs → x ≡ get_or xs i x
    → over w held (best w (map f (drop i xs))) ≡ over w (over w held (counted w (f x))) (best w (map f (drop (i + 1) xs)))
unfolding best
best_seen_more w f xs i x held h e =
    ap (λ ys. over w held (best w (map f ys))) (head_drop xs i x h e) ∙ over_assoc w held (counted w (f x)) (best w (map f (drop (i + 1) xs)))

pub best_seen_end : {X Y : Type 0} (w : Y → ℕ) (f : X → Y) (xs : List X) (i : ℕ) (held : Option Y) → length xs ≤ i → over w held (best w (map f (drop i xs))) ≡ held
unfolding best
best_seen_end w f xs i held h = ap (λ ys. over w held (best w (map f ys))) (drop_all i xs h) ∙ over-none w held
