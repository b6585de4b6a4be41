-- Entries in the order of their offsets.
use Rattle.std.proofs.Common.{arith, ◌≡◌, ℕ, suc, ◌<◌, ◌≤◌, not, Bool, true, false, ◌&&◌, cond, List, [], ◌∷◌, length, map, get_or, refl, sym, ap, ◌∙◌}
use Rattle.std.specs.Prelude.{filter, nat_eq, nat_lt, nat_le}
use Rattle.std.specs.List.{AllByRecursion}
use Rattle.std.specs.List.Sorted.{IsNonDecreasingBy, IsStableByKey, IsPermutation, ties}
use Rattle.std.specs.Ordering.{nat_cmp, is_lt}
use Rattle.std.proofs.lemmas.Bool.Decides.{nat_tests}
use Rattle.std.proofs.lemmas.List.Sorted.{length_permutation}
use Rattle.vpd_image.specs.declared.lines.EntryLine.{EntryLine}
use Rattle.vpd_image.specs.declared.places.PlacedLine.{PlacedLine}
use Rattle.vpd_image.specs.Orders.{Rising}
use Rattle.vpd_image.specs.Places.{Placed, in_order, put_in_order}
use Rattle.vpd_image.specs.Tables.{placed_view}

abbrev pub starts_at : ℕ → Placed → Bool
starts_at v p = nat_eq v p.offset

same_number : (a b : ℕ) → nat_eq a b ≡ true → a ≡ b
same_number a b e = grind (arith, nat_tests, e)

self_number : (a : ℕ) → nat_eq a a ≡ true
self_number a = grind (arith, nat_tests)

other_number : (a b : ℕ) → a < b → nat_eq a b ≡ false
other_number a b h = grind (arith, nat_tests, h)

other_way : (a b : ℕ) → b < a → nat_eq a b ≡ false
other_way a b h = grind (arith, nat_tests, h)

-- what all have, an entry that is put among them has, and so have all
pub all_put : (P : Placed → Type 0) (p : Placed) (qs : List Placed) → P p → AllByRecursion P qs → AllByRecursion P (put_in_order p qs)
unfolding put_in_order
all_put P p [] h a = (h, a)
all_put P p (q ∷ qs) h a = by_place (nat_le p.offset q.offset) (all_put P p qs h a.1)
  where
    by_place : (b : Bool) → AllByRecursion P (put_in_order p qs) → AllByRecursion P (cond b (p ∷ q ∷ qs) (q ∷ put_in_order p qs))
    by_place true rest = (h, a)
    by_place false rest = (a.0, rest)

all_above : (a b : ℕ) (qs : List Placed) → a ≤ b → AllByRecursion (λ q. b ≤ q.offset) qs → AllByRecursion (λ q. a ≤ q.offset) qs
all_above a b [] h all = tt
all_above a b (q ∷ qs) h all = (omega (arith, h, all.0), all_above a b qs h all.1)

by_place : (p q : Placed) (qs : List Placed) → Rising (q ∷ qs) → (b : Bool) → nat_le p.offset q.offset ≡ b → Rising (put_in_order p qs) → Rising (cond b (p ∷ q ∷ qs) (q ∷ put_in_order p qs))
unfolding Rising
by_place p q qs r true e rest = let le : p.offset ≤ q.offset = grind (arith, nat_tests, e) in ((le, all_above p.offset q.offset qs le r.0), r)
by_place p q qs r false e rest = let le : q.offset ≤ p.offset = grind (arith, nat_tests, e) in (all_put (λ z. q.offset ≤ z.offset) p qs le r.0, rest)

rising_put : (p : Placed) (qs : List Placed) → Rising qs → Rising (put_in_order p qs)
unfolding Rising put_in_order
rising_put p [] r = (tt, tt)
rising_put p (q ∷ qs) r = by_place p q qs r (nat_le p.offset q.offset) refl (rising_put p qs r.1)

pub rising_in_order : (ps : List Placed) → Rising (in_order ps)
unfolding in_order Rising
rising_in_order [] = tt
rising_in_order (p ∷ ps) = rising_put p (in_order ps) (rising_in_order ps)

-- those of one offset keep their order
kept_place : (v : ℕ) (p q : Placed) (qs : List Placed) (b : Bool) → nat_le p.offset q.offset ≡ b → filter (starts_at v) (put_in_order p qs) ≡ filter (starts_at v) (p ∷ qs)
    → filter (starts_at v) (cond b (p ∷ q ∷ qs) (q ∷ put_in_order p qs)) ≡ filter (starts_at v) (p ∷ q ∷ qs)
kept_place v p q qs true e rest = refl
kept_place v p q qs false e rest =
    ap (λ z. cond (starts_at v q) (q ∷ z) z) rest ∙ exchanged (starts_at v q) (starts_at v p) refl refl
  where
    tail : List Placed
    tail = filter (starts_at v) qs

    both : starts_at v q ≡ true → starts_at v p ≡ true → ⊥
    both f g = absurd (apart_numbers (same_number v q.offset f) (same_number v p.offset g))
      where
        apart_numbers : v ≡ q.offset → v ≡ p.offset → ⊥
        apart_numbers f g = grind (arith, nat_tests, e, f, g)

    exchanged : (b c : Bool) → starts_at v q ≡ b → starts_at v p ≡ c → cond b (q ∷ cond c (p ∷ tail) tail) (cond c (p ∷ tail) tail) ≡ cond c (p ∷ cond b (q ∷ tail) tail) (cond b (q ∷ tail) tail)
    exchanged true true f g = absurd (both f g)
    exchanged true false f g = refl
    exchanged false true f g = refl
    exchanged false false f g = refl

kept_put : (v : ℕ) (p : Placed) (qs : List Placed) → filter (starts_at v) (put_in_order p qs) ≡ filter (starts_at v) (p ∷ qs)
unfolding put_in_order
kept_put v p [] = refl
kept_put v p (q ∷ qs) = kept_place v p q qs (nat_le p.offset q.offset) refl (kept_put v p qs)

pub kept_in_order : (v : ℕ) (ps : List Placed) → filter (starts_at v) (in_order ps) ≡ filter (starts_at v) ps
unfolding in_order
kept_in_order v [] = refl
kept_in_order v (p ∷ ps) = kept_put v p (in_order ps) ∙ ap (λ z. cond (starts_at v p) (p ∷ z) z) (kept_in_order v ps)

-- a rising list is determined by those of each offset
none_at : (v : ℕ) (qs : List Placed) (b : ℕ) → v < b → AllByRecursion (λ q. b ≤ q.offset) qs → filter (starts_at v) qs ≡ []
none_at v [] b h a = refl
none_at v (q ∷ qs) b h a = rw (other_number v q.offset (omega (arith, h, a.0))) (none_at v qs b h a.1)

abbrev head_of : Placed → List Placed → Placed
head_of d [] = d
head_of d (p ∷ ps) = p

abbrev tail_of : List Placed → List Placed
tail_of [] = []
tail_of (p ∷ ps) = ps

not_empty : (p : Placed) (ps : List Placed) → p ∷ ps ≡ [] → ⊥
not_empty p ps h = absurd cc

self_first : (p : Placed) (ps : List Placed) → filter (starts_at p.offset) (p ∷ ps) ≡ p ∷ filter (starts_at p.offset) ps
self_first p ps = ap (λ b. cond b (p ∷ filter (starts_at p.offset) ps) (filter (starts_at p.offset) ps)) (self_number p.offset)

tails_kept : (v : ℕ) (p : Placed) (ps qs : List Placed) (b : Bool) → cond b (p ∷ filter (starts_at v) ps) (filter (starts_at v) ps) ≡ cond b (p ∷ filter (starts_at v) qs) (filter (starts_at v) qs)
    → filter (starts_at v) ps ≡ filter (starts_at v) qs
tails_kept v p ps qs true h = ap tail_of h
tails_kept v p ps qs false h = h

first_same : (p q : Placed) (ps qs : List Placed) → Rising (p ∷ ps) → Rising (q ∷ qs) → ((v : ℕ) → filter (starts_at v) (p ∷ ps) ≡ filter (starts_at v) (q ∷ qs)) → p ≡ q
unfolding Rising
first_same p q ps qs r s h = by_order (nat_lt p.offset q.offset) (nat_lt q.offset p.offset) refl refl
  where
    by_order : (b c : Bool) → nat_lt p.offset q.offset ≡ b → nat_lt q.offset p.offset ≡ c → p ≡ q
    by_order true c e f =
        let lt : p.offset < q.offset = grind (arith, nat_tests, e) in
        absurd (not_empty p (filter (starts_at p.offset) ps) (sym (self_first p ps) ∙ h p.offset ∙ none_at p.offset (q ∷ qs) q.offset lt (omega arith, s.0)))
    by_order false true e f =
        let lt : q.offset < p.offset = grind (arith, nat_tests, f) in
        absurd (not_empty q (filter (starts_at q.offset) qs) (sym (self_first q qs) ∙ sym (h q.offset) ∙ none_at q.offset (p ∷ ps) p.offset lt (omega arith, r.0)))
    by_order false false e f =
        let is : p.offset ≡ q.offset = grind (arith, nat_tests, e, f) in
        ap (head_of p) (sym (self_first p ps) ∙ h p.offset ∙ ap (λ v. filter (starts_at v) (q ∷ qs)) is ∙ self_first q qs)

pub same_rising : (ps qs : List Placed) → Rising ps → Rising qs → ((v : ℕ) → filter (starts_at v) ps ≡ filter (starts_at v) qs) → ps ≡ qs
unfolding Rising
same_rising [] [] r s h = refl
same_rising [] (q ∷ qs) r s h = absurd (not_empty q (filter (starts_at q.offset) qs) (sym (self_first q qs) ∙ sym (h q.offset)))
same_rising (p ∷ ps) [] r s h = absurd (not_empty p (filter (starts_at p.offset) ps) (sym (self_first p ps) ∙ h p.offset))
same_rising (p ∷ ps) (q ∷ qs) r s h =
    let is : p ≡ q = first_same p q ps qs r s h in
    let rest : ps ≡ qs = same_rising ps qs r.1 s.1 (λ v. tails_kept v p ps qs (starts_at v p) (h v ∙ ap (λ z. cond (starts_at v z) (z ∷ filter (starts_at v) qs) (filter (starts_at v) qs)) (sym is))) in
    ap (λ z. z ∷ ps) is ∙ ap (λ z. q ∷ z) rest

-- what a stable sort by the offsets gives
all_viewed : (n : ℕ) (zs : List PlacedLine) → ((k : ℕ) (d : PlacedLine) → k < length zs → n ≤ (get_or zs k d).offset) → AllByRecursion (λ q. n ≤ q.offset) (map placed_view zs)
all_viewed n [] h = tt
all_viewed n (z ∷ zs) h = (h 0 z (omega arith), all_viewed n zs (λ k d lt. h (suc k) d (grind (arith, lt))))

rising_viewed : (ys : List PlacedLine) → IsNonDecreasingBy (λ p. p.offset) ys → Rising (map placed_view ys)
unfolding Rising
rising_viewed [] h = tt
rising_viewed (y ∷ ys) h = (all_viewed y.offset ys (λ k d lt. h 0 (suc k) d (omega arith) (grind (arith, lt))), rising_viewed ys (λ i j d le lt. h (suc i) (suc j) d (grind (arith, le)) (grind (arith, lt))))

tie_test : (v n : ℕ) → (not (is_lt (nat_cmp v n)) && not (is_lt (nat_cmp n v))) ≡ nat_eq v n
tie_test v n = by_order (nat_lt v n) (nat_lt n v) refl refl
  where
    by_order : (b c : Bool) → nat_lt v n ≡ b → nat_lt n v ≡ c → (not (is_lt (nat_cmp v n)) && not (is_lt (nat_cmp n v))) ≡ nat_eq v n
    by_order b c e f = grind (arith, nat_tests, e, f)

kept_viewed : (v : ℕ) (e : EntryLine) (zs : List PlacedLine) → filter (starts_at v) (map placed_view zs) ≡ map placed_view (filter (ties (λ x y. is_lt (nat_cmp x.offset y.offset)) (record { entry = e; offset = v })) zs)
kept_viewed v e [] = refl
kept_viewed v e (z ∷ zs) =
    ap (λ b. cond b (placed_view z ∷ filter (starts_at v) (map placed_view zs)) (filter (starts_at v) (map placed_view zs))) (sym (tie_test v z.offset))
    ∙ ap (λ w. cond (test z) (placed_view z ∷ w) w) (kept_viewed v e zs) ∙ mapped (test z)
  where
    test : PlacedLine → Bool
    test = ties (λ x y. is_lt (nat_cmp x.offset y.offset)) (record { entry = e; offset = v })

    mapped : (b : Bool) → cond b (placed_view z ∷ map placed_view (filter test zs)) (map placed_view (filter test zs)) ≡ map placed_view (cond b (z ∷ filter test zs) (filter test zs))
    mapped true = refl
    mapped false = refl

pub sorted_is : (xs ys : List PlacedLine) → IsPermutation xs ys → IsNonDecreasingBy (λ p. p.offset) ys → IsStableByKey (λ p. p.offset) nat_cmp xs ys → map placed_view ys ≡ in_order (map placed_view xs)
unfolding in_order
sorted_is [] [] moved up stable = refl
sorted_is [] (y ∷ ys) moved up stable = absurd (omega (arith, length_permutation [] (y ∷ ys) moved))
sorted_is (x ∷ xs) ys moved up stable =
    same_rising (map placed_view ys) (in_order (map placed_view (x ∷ xs))) (rising_viewed ys up) (rising_in_order (map placed_view (x ∷ xs)))
    (λ v. kept_viewed v x.entry ys ∙ ap (map placed_view) (stable (record { entry = x.entry; offset = v })) ∙ sym (kept_viewed v x.entry (x ∷ xs)) ∙ sym (kept_in_order v (map placed_view (x ∷ xs))))
