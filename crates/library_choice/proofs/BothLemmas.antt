-- Two queues that begin from nothing, and what they have together.
use Rattle.std.proofs.Common.{◌≡◌, ◌∙◌, ◌||◌, ◌&&◌, ⊎_elim, ℕ, ◌≤◌, Bool, true, false, not, cond, List, [], ◌∷◌, ◌++◌, Some, None, length, append_assoc, append-nil, refl, sym, ap, subst, arith}
use Rattle.std.specs.Prelude.{filter}
use Rattle.std.specs.List.{flat_map}
use Rattle.std.proofs.lemmas.List.Elements.{filter-append}
use Rattle.library_choice.specs.Found.{is_in, put, add, ends, found_in}
use Rattle.library_choice.specs.Search.{Same, Closed, Reason, First, Finds}
use Rattle.library_choice.proofs.CountLemmas.{Distinct, distinct-add, no-more}
use Rattle.library_choice.proofs.FoundLemmas.{Prefix-length, add_append, add-grows, added, once}
use Rattle.library_choice.proofs.InsideLemmas.{all-by, closed-in}
use Rattle.library_choice.proofs.LedLemmas.{in-put, in-add}
use Rattle.library_choice.proofs.ReachLemmas.{or-cases, or-left, or-right, in-right, from-flat}
use Rattle.library_choice.proofs.SearchLemmas.{Went, more-eq}

each-alone : {X : Type 0} (xs : List X) → flat_map (λ x. x ∷ []) xs ≡ xs
each-alone [] = refl
each-alone {X} (x ∷ xs) = ap (λ (l : List X). x ∷ l) (each-alone xs)

-- to add what was put together before is to add its parts
add-again : {X : Type 0} (eq : X → X → Bool) → Same eq → (b xs : List X) → add eq b (add eq [] xs) ≡ add eq b xs
add-again {X} eq s b xs =
    ap (add eq b) (sym (each-alone (add eq [] xs))) ∙ once eq s (λ x. x ∷ []) b [] xs ∙ ap (add eq b) (each-alone xs)

-- a queue that has ended has each item once
pub ended-distinct : {X : Type 0} (eq : X → X → Bool) → Same eq → (next : X → List X) (starts found : List X) → First eq next starts found → Distinct eq found
ended-distinct eq s next starts found a =
    subst (Distinct eq) (a.ended.whole (length found) (omega arith)) (distinct-add eq s [] (ends next starts (length found)) tt)

second-within : {X : Type 0} (eq : X → X → Bool) → Same eq → (b xs : List X) → Distinct eq xs → length xs ≤ length (add eq b xs)
second-within eq s b xs d = no-more eq s (add eq b xs) xs d (added eq s b xs)

pub found-both : {X : Type 0} (eq : X → X → Bool) → Same eq → (next : X → List X) (classes nulls first second : List X) (n : ℕ) → First eq next classes first → First eq next nulls second
    → length first ≤ n → length second ≤ n → found_in eq next classes nulls n ≡ add eq first second
unfolding found_in
found-both eq s next classes nulls first second n a b l m =
    add_append eq [] (ends next classes n) (ends next nulls n)
    ∙ ap (λ f. add eq f (ends next nulls n)) (a.ended.whole n l)
    ∙ sym (add-again eq s first (ends next nulls n))
    ∙ ap (add eq first) (b.ended.whole n m)

-- what two queues lead to is among what they have together
closed-both : {X : Type 0} (eq : X → X → Bool) → Same eq → (next : X → List X) (first second : List X) → Closed eq next first → Closed eq next second → Closed eq next (add eq first second)
closed-both eq s next first second a b =
    all-by eq s (add eq first second) (flat_map next (add eq first second)) (λ z h.
    let r = from-flat eq s next (add eq first second) z h in
    in-add eq s first second z
    ∙ ⊎_elim (λ (g : is_in eq first r.from ≡ true). or-left (is_in eq first z) (is_in eq second z) (closed-in eq s next first r.from z a g r.on))
    (λ (g : is_in eq second r.from ≡ true). or-right (is_in eq first z) (is_in eq second z) (closed-in eq s next second r.from z b g r.on))
    (or-cases (is_in eq first r.from) (is_in eq second r.from) (sym (in-add eq s first second r.from) ∙ r.there)))

pub both-few : {X : Type 0} (eq : X → X → Bool) → Same eq → (next : X → List X) (classes nulls first second : List X) → First eq next classes first → First eq next nulls second
    → length (add eq first second) ≤ 1024 → Finds eq next classes nulls (Some (add eq first second))
both-few eq s next classes nulls first second a b few =
    let one = Prefix-length first (add eq first second) (add-grows eq first second) in
    let two = second-within eq s first second (ended-distinct eq s next nulls second b) in (
      sym (found-both eq s next classes nulls first second 1025 a b (omega (arith, one, few)) (omega (arith, two, few))),
      few,
      closed-both eq s next first second a.ended.closed b.ended.closed,
      λ n l. found-both eq s next classes nulls first second n a b (omega (arith, one, l)) (omega (arith, two, l)),
    )

pub both-many : {X : Type 0} (eq : X → X → Bool) → Same eq → (next : X → List X) (classes nulls first second : List X) → First eq next classes first → First eq next nulls second
    → 1025 ≤ length (add eq first second) → Finds eq next classes nulls None
both-many eq s next classes nulls first second a b many =
    subst (λ l. 1025 ≤ length l) (sym (found-both eq s next classes nulls first second 1025 a b (omega (arith, a.few)) (omega (arith, b.few)))) many

-- no fewer are found with more in front
added-within : {X : Type 0} (eq : X → X → Bool) → Same eq → (xs ys : List X) → length (add eq [] ys) ≤ length (add eq [] (xs ++ ys))
added-within eq s xs ys =
    no-more eq s (add eq [] (xs ++ ys)) (add eq [] ys) (distinct-add eq s [] ys tt)
    (all-by eq s (add eq [] (xs ++ ys)) (add eq [] ys) (λ x h. in-add eq s [] (xs ++ ys) x ∙ in-right eq xs ys x (sym (in-add eq s [] ys x) ∙ h)))

pub many-nulls : {X : Type 0} (eq : X → X → Bool) → Same eq → (next : X → List X) (classes nulls found : List X) (few : Bool) → Went eq next [] nulls found few → few ≡ false → Finds eq next classes nulls None
unfolding found_in
many-nulls eq s next classes nulls found few g f =
    omega (arith, more-eq eq s next nulls [] found g.0 tt g.1.going g.1.early, subst (λ v. Reason v found g.0) f g.2, added-within eq s (ends next classes 1025) (ends next nulls 1025))

-- a filter by two tests that agree on the list
pub filter-same-by : {X : Type 0} (x : X) (ps qs : List X) (v w : Bool) → v ≡ w → ps ≡ qs → cond v (x ∷ ps) ps ≡ cond w (x ∷ qs) qs
filter-same-by {X} x ps qs v w e f = ap (λ (b : Bool). cond b (x ∷ ps) ps) e ∙ ap (λ (l : List X). cond w (x ∷ l) l) f

filter-same : {X : Type 0} (eq : X → X → Bool) → Same eq → (p q : X → Bool) (xs : List X) → ((x : X) → is_in eq xs x ≡ true → p x ≡ q x) → filter p xs ≡ filter q xs
filter-same eq s p q [] h = refl
filter-same eq s p q (x ∷ xs) h =
    filter-same-by x (filter p xs) (filter q xs) (p x) (q x) (h x (or-left (eq x x) (is_in eq xs x) (s.itself x)))
    (filter-same eq s p q xs (λ y g. h y (or-right (eq x y) (is_in eq xs y) g)))

-- one that isn't there is another than each that is
other-than : {X : Type 0} (eq : X → X → Bool) → Same eq → (xs : List X) (x y : X) (v : Bool) → eq x y ≡ v → is_in eq xs x ≡ false → is_in eq xs y ≡ true → v ≡ false
other-than eq s xs x y false e out there = refl
other-than eq s xs x y true e out there =
    let in_it : is_in eq xs x ≡ true = subst (λ z. is_in eq xs z ≡ true) (sym (s.same x y e)) there in
    absurd (cc)

or-none : (a b : Bool) → b ≡ false → a || b ≡ a
or-none true b e = refl
or-none false b e = e

apart-by : {X : Type 0} (eq : X → X → Bool) → Same eq → (b : List X) (x : X) (xs : List X) (v : Bool) → is_in eq b x ≡ v → is_in eq xs x ≡ false
    → cond v b (b ++ x ∷ []) ++ filter (λ y. not (is_in eq (cond v b (b ++ x ∷ [])) y)) xs
    ≡ b ++ cond (not v) (x ∷ filter (λ y. not (is_in eq b y)) xs) (filter (λ y. not (is_in eq b y)) xs)
apart-by eq s b x xs true e out = refl
apart-by {X} eq s b x xs false e out =
    append_assoc b (x ∷ []) (filter (λ y. not (is_in eq (b ++ x ∷ []) y)) xs)
    ∙ ap (λ (l : List X). b ++ x ∷ l) (filter-same eq s (λ y. not (is_in eq (b ++ x ∷ []) y)) (λ y. not (is_in eq b y)) xs
    (λ y there. ap not (in-put eq s b x y false e ∙ or-none (is_in eq b y) (eq x y) (other-than eq s xs x y (eq x y) refl out there))))

-- those that are added are those that aren't there
apart : {X : Type 0} (eq : X → X → Bool) → Same eq → (b xs : List X) → Distinct eq xs → add eq b xs ≡ b ++ filter (λ x. not (is_in eq b x)) xs
unfolding add
apart eq s b [] d = sym (append-nil b)
apart eq s b (x ∷ xs) d = apart eq s (put eq b x) xs d.1 ∙ apart-by eq s b x xs (is_in eq b x) refl d.0

filter-both-by : {X : Type 0} (u : X → Bool) (x : X) (both : List X) (some : List X) (v w : Bool) → u x ≡ w → filter u some ≡ both → filter u (cond v (x ∷ some) some) ≡ cond (w && v) (x ∷ both) both
filter-both-by {X} u x both some true true e f = ap (λ (b : Bool). cond b (x ∷ filter u some) (filter u some)) e ∙ ap (λ (l : List X). x ∷ l) f
filter-both-by {X} u x both some true false e f = ap (λ (b : Bool). cond b (x ∷ filter u some) (filter u some)) e ∙ f
filter-both-by u x both some false true e f = f
filter-both-by u x both some false false e f = f

filter-both : {X : Type 0} (u p : X → Bool) (xs : List X) → filter u (filter p xs) ≡ filter (λ x. u x && p x) xs
filter-both u p [] = refl
filter-both u p (x ∷ xs) = filter-both-by u x (filter (λ y. u y && p y) xs) (filter p xs) (p x) (u x) refl (filter-both u p xs)

-- what passes a test of two lists together
pub filter-add : {X : Type 0} (eq : X → X → Bool) → Same eq → (u : X → Bool) (b xs : List X) → Distinct eq xs → filter u (add eq b xs) ≡ filter u b ++ filter (λ x. u x && not (is_in eq b x)) xs
filter-add {X} eq s u b xs d =
    ap (filter u) (apart eq s b xs d) ∙ filter-append u b (filter (λ x. not (is_in eq b x)) xs)
    ∙ ap (λ (l : List X). filter u b ++ l) (filter-both u (λ x. not (is_in eq b x)) xs)
