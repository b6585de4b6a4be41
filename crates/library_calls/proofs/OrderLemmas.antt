-- Taking the first that may come gives the least order.
use Rattle.std.proofs.Common.{◌≡◌, ◌||◌, ◌⊎◌, ℕ, zero, suc, ◌+◌, ◌<◌, ◌≤◌, Bool, true, false, cond, eqb, List, [], ◌∷◌, ◌++◌, length, get_or, refl, sym, ap, ◌∙◌, subst, arith, inl, inr, ⊎_elim, eq-eqb}
use Rattle.std.specs.List.{list_any, AllPairs, remove}
use Rattle.std.proofs.lemmas.Bool.{eqb-true, cases_lt}
use Rattle.library_calls.specs.Order.{count, IsIn, IsOrder, NotAfter, IsCallOrder, Sortable}

pub count-append : (n : ℕ) (xs ys : List ℕ) → count n (xs ++ ys) ≡ count n xs + count n ys
count-append n [] ys = omega arith
count-append n (x ∷ xs) ys = omega (arith, count-append n xs ys)

-- one that is taken out is one less
pub count-remove : (n : ℕ) (xs : List ℕ) (i d : ℕ) → i < length xs → count n (get_or xs i d ∷ remove xs i) ≡ count n xs
count-remove n [] i d h = absurd (omega arith)
count-remove n (x ∷ xs) zero d h = refl
count-remove n (x ∷ xs) (suc i) d h = omega (arith, count-remove n xs i d (omega arith))

place-cons : (y : ℕ) (ys : List ℕ) (x d : ℕ) (v : Bool) → eqb y x ≡ v → 0 < cond v 1 0 + count x ys → (IsIn ys x → (k : ℕ) × (k < length ys) × (get_or ys k d ≡ x)) → (k : ℕ) × (k < length (y ∷ ys)) × (get_or (y ∷ ys) k d ≡ x)
place-cons y ys x d true e h ih = (0, omega arith, eqb-true y x e)
place-cons y ys x d false e h ih = let r = ih (omega (arith, h)) in (suc r.0, omega (arith, r.1), r.2)

in-cases-by : (y : ℕ) (ys : List ℕ) (x : ℕ) (v : Bool) → eqb y x ≡ v → 0 < cond v 1 0 + count x ys → (y ≡ x) ⊎ IsIn ys x
in-cases-by y ys x true e h = inl (eqb-true y x e)
in-cases-by y ys x false e h = inr (omega (arith, h))

pub in-front : (y : ℕ) (ys : List ℕ) → IsIn (y ∷ ys) y
in-front y ys = let e : eqb y y ≡ true = eq-eqb y y refl in rw e (omega arith)

pub in-later : (y : ℕ) (ys : List ℕ) (x : ℕ) → IsIn ys x → IsIn (y ∷ ys) x
in-later y ys x h = omega (arith, h)

-- an item of a list is its front or one of the rest
in-cases : (y : ℕ) (ys : List ℕ) (x : ℕ) → IsIn (y ∷ ys) x → (y ≡ x) ⊎ IsIn ys x
in-cases y ys x h = in-cases-by y ys x (eqb y x) refl h

-- an item of a list has a place
pub place_of : (xs : List ℕ) (x d : ℕ) → IsIn xs x → (k : ℕ) × (k < length xs) × (get_or xs k d ≡ x)
place_of [] x d h = absurd (omega arith)
place_of (y ∷ ys) x d h = place-cons y ys x d (eqb y x) refl h (place_of ys x d)

or-false : (a b : Bool) → a || b ≡ false → (a ≡ false) × (b ≡ false)
or-false true b e = absurd (cc)
or-false false b e = (refl, e)

pub none_of : (p : ℕ → Bool) (xs : List ℕ) → list_any p xs ≡ false → (y : ℕ) → IsIn xs y → p y ≡ false
none_of p [] e y h = absurd (omega arith)
none_of p (x ∷ xs) e y h =
    let parts = or-false (p x) (list_any p xs) e in
    ⊎_elim (λ (same : x ≡ y). subst (λ z. p z ≡ false) same parts.0) (λ (there : IsIn xs y). none_of p xs parts.1 y there) (in-cases x xs y h)

pub any_none : (p : ℕ → Bool) (xs : List ℕ) → ((y : ℕ) → IsIn xs y → p y ≡ false) → list_any p xs ≡ false
any_none p [] h = refl
any_none p (x ∷ xs) h = ap (λ v. v || list_any p xs) (h x (in-front x xs)) ∙ any_none p xs (λ y there. h y (in-later x xs y there))

upward : (left : List ℕ) (i k : ℕ) → AllPairs (λ x z. x < z) left → i ≤ k → k < length left → get_or left i 0 ≤ get_or left k 0
upward left i k up l h = ⊎_elim (λ (less : i < k). let below : get_or left i 0 < get_or left k 0 = up i k 0 less h in omega arith) (λ (more : k ≤ i). let e : i ≡ k = omega arith in rw e (omega arith)) (cases_lt i k)

pub least_first : (p : ℕ → Bool) (left : List ℕ) (i y : ℕ) → AllPairs (λ x z. x < z) left → ((k : ℕ) → k < i → p (get_or left k 0) ≡ true) → i < length left → IsIn left y → p y ≡ false → get_or left i 0 ≤ y
least_first p left i y up before h there e =
    let at = place_of left y 0 there in
    let k = at.0 in
    ⊎_elim (λ (early : at.0 < i). absurd (let t : p y ≡ true = subst (λ z. p z ≡ true) at.2 (before at.0 early) in cc))
    (λ (late : i ≤ at.0). subst (λ z. get_or left i 0 ≤ z) at.2 (upward left i at.0 up late at.1))
    (cases_lt at.0 i)

greedy-least : (before : ℕ → ℕ → Bool) (left : List ℕ) (i : ℕ) (tail : List ℕ) → ((x : ℕ) → before x x ≡ false) → AllPairs (λ x z. x < z) left → i < length left → ((k : ℕ) → k < i → list_any (λ y. before y (get_or left k 0)) left ≡ true) → IsCallOrder before (remove left i) tail → (other : List ℕ) → IsOrder before left other → NotAfter (get_or left i 0 ∷ tail) other
greedy-least before left i tail irr up h first rest [] o =
    let x = get_or left i 0 in
    let there : 0 < count (get_or left i 0) (get_or left i 0 ∷ remove left i) = in-front (get_or left i 0) (remove left i) in
    absurd (omega (arith, o.same (get_or left i 0), count-remove (get_or left i 0) left i 0 h, there))
greedy-least before left i tail irr up h first rest (z ∷ zs) o =
    let there : IsIn left z = let f : 0 < count z (z ∷ zs) = in-front z zs in omega (arith, o.same z, f) in
    let free : list_any (λ y. before y z) left ≡ false = any_none (λ y. before y z) left (λ y in_left.
    ⊎_elim (λ (same : z ≡ y). subst (λ w. before w z ≡ false) same (irr z)) (λ (later : IsIn zs y). o.respects.0 y later)
    (in-cases z zs y (let s = o.same y in omega (arith, s, in_left)))) in
    let low : get_or left i 0 ≤ z = least_first (λ w. list_any (λ y. before y w) left) left i z up first h there free in
    ⊎_elim (λ (less : get_or left i 0 < z). inl less)
    (λ (more : z ≤ get_or left i 0).
    let e : get_or left i 0 ≡ z = omega arith in
    inr (
      e,
      rest.least zs (record {
        same = λ n. let c : count n (z ∷ remove left i) ≡ count n left = subst (λ w. count n (w ∷ remove left i) ≡ count n left) e (count-remove n left i 0 h) in omega (arith, o.same n, c);
        respects = o.respects.1;
      }),
    ))
    (cases_lt (get_or left i 0) z)

pub greedy : (before : ℕ → ℕ → Bool) (left : List ℕ) (i : ℕ) (tail : List ℕ) → ((x : ℕ) → before x x ≡ false) → AllPairs (λ x z. x < z) left → i < length left → list_any (λ y. before y (get_or left i 0)) left ≡ false → ((k : ℕ) → k < i → list_any (λ y. before y (get_or left k 0)) left ≡ true) → IsCallOrder before (remove left i) tail → IsCallOrder before left (get_or left i 0 ∷ tail)
greedy before left i tail irr up h ready first rest =
    let x = get_or left i 0 in
    record {
      fits = record {
        same = λ n. omega (arith, rest.fits.same n, count-remove n left i 0 h);
        respects = (λ y there. none_of (λ z. before z (get_or left i 0)) left ready y (let a = rest.fits.same y in omega (arith, there, a, count-remove y left i 0 h)), rest.fits.respects);
      };
      least = λ other o. greedy-least before left i tail irr up h first rest other o;
    }

-- what is before x is before m, unless it is m
minimal-none : (before : ℕ → ℕ → Bool) (items : List ℕ) (x : ℕ) (xs : List ℕ) → Sortable before items → ((z : ℕ) → IsIn (x ∷ xs) z → IsIn items z) → (m : ℕ) → IsIn xs m → list_any (λ y. before y m) xs ≡ false → before x m ≡ true → (y : ℕ) → IsIn xs y → (v : Bool) → before y x ≡ v → before y x ≡ false
minimal-none before items x xs s inside m there free e y in_xs false f = f
minimal-none before items x xs s inside m there free e y in_xs true f =
    let same : y ≡ m = s.onward y x m f e (none_of (λ z. before z m) xs free y in_xs) in
    s.one_way x y (inside x (in-front x xs)) (inside y (in-later x xs y in_xs)) (subst (λ z. before x z ≡ true) (sym same) e)

minimal-by : (before : ℕ → ℕ → Bool) (items : List ℕ) (x : ℕ) (xs : List ℕ) → Sortable before items → ((z : ℕ) → IsIn (x ∷ xs) z → IsIn items z) → (m : ℕ) → IsIn xs m → list_any (λ y. before y m) xs ≡ false → (v : Bool) → before x m ≡ v → (z : ℕ) × IsIn (x ∷ xs) z × (list_any (λ y. before y z) (x ∷ xs) ≡ false)
minimal-by before items x xs s inside m there free false e = (m, in-later x xs m there, ap (λ v. v || list_any (λ y. before y m) xs) e ∙ free)
minimal-by before items x xs s inside m there free true e =
    (x, in-front x xs, ap (λ v. v || list_any (λ y. before y x) xs) (s.itself x) ∙ any_none (λ y. before y x) xs (λ y in_xs. minimal-none before items x xs s inside m there free e y in_xs (before y x) refl))

pub minimal : (before : ℕ → ℕ → Bool) (items left : List ℕ) → Sortable before items → ((x : ℕ) → IsIn left x → IsIn items x) → 0 < length left → (x : ℕ) × IsIn left x × (list_any (λ y. before y x) left ≡ false)
minimal before items [] s inside h = absurd (omega arith)
minimal before items (x ∷ []) s inside h = (x, in-front x [], ap (λ v. v || false) (s.itself x))
minimal before items (x ∷ y ∷ ys) s inside h =
    let r = minimal before items (y ∷ ys) s (λ z there. inside z (in-later x (y ∷ ys) z there)) (omega arith) in
    minimal-by before items x (y ∷ ys) s inside r.0 r.1 r.2 (before x r.0) refl
