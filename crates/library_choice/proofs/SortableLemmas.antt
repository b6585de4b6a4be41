-- Calls that don't need each other can be put in order.
use Rattle.std.proofs.Common.{◌≡◌, ◌∙◌, ◌||◌, ◌&&◌, ⊎_elim, ℕ, zero, suc, ◌+◌, ◌<◌, ◌≤◌, Bool, true, false, not, cond, List, [], ◌∷◌, Option, Some, None, length, map, get_or, refl, sym, ap, subst, arith, eq-eqb}
use Rattle.std.specs.Prelude.{find, ◌==◌}
use Rattle.std.specs.List.{AllPairs, All, list_any, range_with_len}
use Rattle.std.proofs.lemmas.Bool.{cases_lt, eqb-true}
use Rattle.std.proofs.lemmas.List.FromFn.{get_or-range_with_len, length-range_with_len}
use Rattle.std.proofs.lemmas.List.{get_or-map, get_or_past, length-map}
use Rattle.std.proofs.lemmas.Option.{slice_get-get_or}
use Rattle.library_calls.specs.declared.caller.WithCalls.{WithCalls}
use Rattle.library_choice.specs.Choices.{leads, reach, before, places, is_looped, caller_fault, looped, loop_fault}
use Rattle.library_choice.specs.Closure.{next, same_path}
use Rattle.library_choice.specs.Found.{is_in, add, ends}
use Rattle.library_choice.specs.Lines.{Setting}
use Rattle.library_calls.specs.Order.{IsIn, Sortable}
use Rattle.library_choice.specs.Reaching.{IsWithin}
use Rattle.library_choice.proofs.InsideLemmas.{led-few}
use Rattle.library_choice.proofs.LedLemmas.{in-add}
use Rattle.library_calls.proofs.OrderLemmas.{place_of, none_of, in-front, in-later}
use Rattle.library_choice.proofs.PathLemmas.{path_same}
use Rattle.library_choice.proofs.ReachLemmas.{onward}
use Rattle.library_choice.proofs.SaturationLemmas.{saturated}

and-true : (a b : Bool) → a && b ≡ true → (a ≡ true) × (b ≡ true)
and-true true b e = (refl, e)
and-true false b e = absurd (cc)

not-is : (b : Bool) → not b ≡ true → b ≡ false
not-is false e = refl
not-is true e = absurd (cc)

-- walks of 1,025 steps are enough
enough : (s : Setting) (y x : List ℕ) (n : ℕ) → IsWithin same_path (next s) y → 1025 ≤ n → is_in same_path (ends (next s) (next s y) n) x ≡ true → leads s y x ≡ true
unfolding leads
enough s y x n w h there =
    let few : (m : ℕ) → length (add same_path [] (ends (next s) (next s y) m)) ≤ 1024 = λ m. omega (arith, led-few same_path path_same (next s) w.found y w.closed w.there m, w.few) in
    sym (in-add same_path path_same [] (ends (next s) (next s y) 1025) x)
    ∙ ap (λ l. is_in same_path l x) (sym (saturated same_path path_same (next s) (next s y) few n h))
    ∙ in-add same_path path_same [] (ends (next s) (next s y) n) x ∙ there

leads-on : (s : Setting) (z y x : List ℕ) → IsWithin same_path (next s) z → leads s z y ≡ true → leads s y x ≡ true → leads s z x ≡ true
unfolding leads
leads-on s z y x w a b = enough s z x (1025 + 1025) w (omega arith) (onward same_path path_same (next s) (next s z) 1025 1025 y x a b)

record Told (s : Setting) (cs : List WithCalls) (d : WithCalls) (x y : ℕ) : Type 0 where
  other : (x == y) ≡ false
  x_in : x < length cs
  y_in : y < length cs
  leads_to : leads s (get_or cs y d).inf (get_or cs x d).inf ≡ true

abbrev pub row : (s : Setting) (cs : List WithCalls) → WithCalls → List Bool
row s cs y = map (λ (x : WithCalls). leads s y.inf x.inf) cs

row-at : (s : Setting) (cs : List WithCalls) (d : WithCalls) (y : ℕ) → y < length cs → get_or (reach s cs) y [] ≡ row s cs (get_or cs y d)
unfolding reach
row-at s cs d y h = get_or-map (λ (y : WithCalls). map (λ (x : WithCalls). leads s y.inf x.inf) cs) cs y d [] h

cell-at : (s : Setting) (cs : List WithCalls) (d : WithCalls) (x : ℕ) (y : WithCalls) → x < length cs → get_or (row s cs y) x false ≡ leads s y.inf (get_or cs x d).inf
cell-at s cs d x y h = get_or-map (λ (x : WithCalls). leads s y.inf x.inf) cs x d false h

nothing : (x : ℕ) → get_or {A = Bool} [] x false ≡ true → ⊥
nothing zero f = absurd (cc)
nothing (suc x) f = absurd (cc)

no-row : (x : ℕ) (r : List Bool) → r ≡ [] → get_or r x false ≡ true → ⊥
no-row x r p e = nothing x (subst (λ (l : List Bool). get_or l x false ≡ true) p e)

y-inside : (s : Setting) (cs : List WithCalls) (x y : ℕ) → get_or (get_or (reach s cs) y []) x false ≡ true → y < length cs
unfolding reach
y-inside s cs x y e =
    ⊎_elim (λ (h : y < length cs). h)
    (λ (h : length cs ≤ y).
    let past : get_or (map (λ (y : WithCalls). map (λ (x : WithCalls). leads s y.inf x.inf) cs) cs) y [] ≡ [] = get_or_past (map (λ (y : WithCalls). map (λ (x : WithCalls). leads s y.inf x.inf) cs) cs) y [] (omega (arith, h, length-map cs (λ (y : WithCalls). map (λ (x : WithCalls). leads s y.inf x.inf) cs))) in
    absurd (no-row x (get_or (map (λ (y : WithCalls). map (λ (x : WithCalls). leads s y.inf x.inf) cs) cs) y []) past e))
    (cases_lt y (length cs))

x-inside : (s : Setting) (cs : List WithCalls) (y : WithCalls) (x : ℕ) → get_or (row s cs y) x false ≡ true → x < length cs
x-inside s cs y x e =
    ⊎_elim (λ (h : x < length cs). h)
    (λ (h : length cs ≤ x).
    let past : get_or (row s cs y) x false ≡ false = get_or_past (row s cs y) x false (omega (arith, h, length-map cs (λ (x : WithCalls). leads s y.inf x.inf))) in
    absurd (cc))
    (cases_lt x (length cs))

told : (s : Setting) (cs : List WithCalls) (d : WithCalls) (x y : ℕ) → before (reach s cs) x y ≡ true → Told s cs d x y
unfolding before
told s cs d x y e =
    let parts = and-true (not (x == y)) (get_or (get_or (reach s cs) y []) x false) e in
    let y_in = y-inside s cs x y parts.1 in
    let here : get_or (row s cs (get_or cs y d)) x false ≡ true = subst (λ (r : List Bool). get_or r x false ≡ true) (row-at s cs d y y_in) parts.1 in
    let x_in = x-inside s cs (get_or cs y d) x here in
    record { other = not-is (x == y) parts.0; x_in = x_in; y_in = y_in; leads_to = sym (cell-at s cs d x (get_or cs y d) x_in) ∙ here }

tell : (s : Setting) (cs : List WithCalls) (d : WithCalls) (x y : ℕ) → x < length cs → y < length cs → (x == y) ≡ false → leads s (get_or cs y d).inf (get_or cs x d).inf ≡ true → before (reach s cs) x y ≡ true
unfolding before
tell s cs d x y x_in y_in other l =
    ap (λ v. not v && get_or (get_or (reach s cs) y []) x false) other
    ∙ ap (λ (r : List Bool). get_or r x false) (row-at s cs d y y_in) ∙ cell-at s cs d x (get_or cs y d) x_in ∙ l

on-by : (s : Setting) (cs : List WithCalls) (d : WithCalls) → All (λ (c : WithCalls). IsWithin same_path (next s) c.inf) cs → (x y z : ℕ) → before (reach s cs) x y ≡ true → before (reach s cs) y z ≡ true → before (reach s cs) x z ≡ false → (v : Bool) → (x == z) ≡ v → x ≡ z
on-by s cs d all x y z a b c true e = eqb-true x z e
on-by s cs d all x y z a b c false e =
    let p = told s cs d x y a in
    let q = told s cs d y z b in
    let t : before (reach s cs) x z ≡ true = tell s cs d x z p.x_in q.y_in e (leads-on s (get_or cs z d).inf (get_or cs y d).inf (get_or cs x d).inf (all z d q.y_in) q.leads_to p.leads_to) in
    absurd (cc)

first-of : (s : Setting) (cs : List WithCalls) (x y : ℕ) → before (reach s cs) x y ≡ true → WithCalls
unfolding before
first-of s [] x y e = absurd (let parts = and-true (not (x == y)) (get_or (get_or (reach s []) y []) x false) e in let h = y-inside s [] x y parts.1 in omega (arith, h))
first-of s (c ∷ cs) x y e = c

apart : (x y z : Bool) → x && y ≡ false → x ≡ true → y ≡ false
apart true y z e h = e
apart false y z e h = absurd (cc)

never-by : (p : ℕ → Bool) (x : ℕ) (xs : List ℕ) (v : Bool) → p x ≡ v → cond v (Some x) (find p xs) ≡ None → (find p xs ≡ None → list_any p xs ≡ false) → p x || list_any p xs ≡ false
never-by p x xs true t f ih = absurd (cc)
never-by p x xs false t f ih = ap (λ v. v || list_any p xs) t ∙ ih f

never : (p : ℕ → Bool) (xs : List ℕ) → find p xs ≡ None → list_any p xs ≡ false
never p [] e = refl
never p (x ∷ xs) e = never-by p x xs (p x) refl e (never p xs)

some-place : (cs : List WithCalls) (x : ℕ) → x < length cs → looped cs (Some x) ≡ None → ⊥
some-place [] x h e = absurd (omega (arith, h))
some-place (c ∷ cs) x h e =
    let f : caller_fault (Some (get_or (c ∷ cs) x c)) ≡ None = subst (λ o. caller_fault o ≡ None) (slice_get-get_or (c ∷ cs) x c h) e in
    absurd (cc)

inside : (n x : ℕ) → IsIn (range_with_len 0 n) x → x < n
inside n x h =
    let at = place_of (range_with_len 0 n) x 0 h in
    let below : at.0 < n = omega (arith, at.1, length-range_with_len 0 n) in
    omega (arith, below, at.2, get_or-range_with_len 0 n at.0 0 below)

found-in-by : (y : ℕ) (ys : List ℕ) (rest : Option ℕ) (x : ℕ) (v : Bool) → cond v (Some y) rest ≡ Some x → (rest ≡ Some x → IsIn ys x) → IsIn (y ∷ ys) x
found-in-by y ys rest x true f ih = let same : y ≡ x = cc in subst (λ z. IsIn (y ∷ ys) z) same (in-front y ys)
found-in-by y ys rest x false f ih = in-later y ys x (ih f)

found-in : (p : ℕ → Bool) (xs : List ℕ) (x : ℕ) → find p xs ≡ Some x → IsIn xs x
found-in p [] x e = absurd (cc)
found-in p (y ∷ ys) x e = found-in-by y ys (find p ys) x (p y) e (found-in p ys x)

none-looped : (s : Setting) (cs : List WithCalls) (o : Option ℕ) → find (is_looped (reach s cs) (places cs)) (places cs) ≡ o → looped cs o ≡ None → find (is_looped (reach s cs) (places cs)) (places cs) ≡ None
none-looped s cs None e h = e
none-looped s cs (Some x) e h = absurd (some-place cs x (inside (length cs) x (found-in (is_looped (reach s cs) (places cs)) (places cs) x e)) h)

one-way : (s : Setting) (cs : List WithCalls) → loop_fault (reach s cs) cs ≡ None → (x y : ℕ) → IsIn (places cs) x → IsIn (places cs) y → before (reach s cs) x y ≡ true → before (reach s cs) y x ≡ false
unfolding loop_fault
one-way s cs h x y in_x in_y e =
    let none = none-looped s cs (find (is_looped (reach s cs) (places cs)) (places cs)) refl h in
    let free : is_looped (reach s cs) (places cs) x ≡ false = none_of (is_looped (reach s cs) (places cs)) (places cs) (never (is_looped (reach s cs) (places cs)) (places cs) none) x in_x in
    apart (before (reach s cs) x y) (before (reach s cs) y x) true (none_of (λ y. before (reach s cs) x y && before (reach s cs) y x) (places cs) free y in_y) e

itself : (s : Setting) (cs : List WithCalls) (x : ℕ) → before (reach s cs) x x ≡ false
unfolding before
itself s cs x = ap (λ v. not v && get_or (get_or (reach s cs) x []) x false) (eq-eqb x x refl)

pub sortable : (s : Setting) (cs : List WithCalls) → All (λ (c : WithCalls). IsWithin same_path (next s) c.inf) cs → loop_fault (reach s cs) cs ≡ None → Sortable (before (reach s cs)) (places cs)
sortable s cs all h = record {
  itself = itself s cs;
  one_way = one-way s cs h;
  onward = λ x y z a b c. on-by s cs (first-of s cs x y a) all x y z a b c (x == z) refl;
}

ascends : (a n : ℕ) → AllPairs (λ x z. x < z) (range_with_len a n)
ascends a n = λ i k d l h.
    let below : k < n = omega (arith, h, length-range_with_len a n) in
    omega (arith, l, get_or-range_with_len a n i d (omega (arith, l, below)), get_or-range_with_len a n k d below)

pub places-ascend : (cs : List WithCalls) → AllPairs (λ x z. x < z) (places cs)
places-ascend cs = ascends 0 (length cs)
