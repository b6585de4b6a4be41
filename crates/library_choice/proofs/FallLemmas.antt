-- With more files known more is found, and more of what is found is known.
use Rattle.std.proofs.Common.{◌≡◌, ◌∙◌, ◌||◌, ⊎_elim, ℕ, zero, suc, ◌≤◌, Bool, true, false, cond, List, [], ◌∷◌, ◌++◌, length, refl, sym, subst}
use Rattle.std.specs.Prelude.{filter}
use Rattle.std.specs.List.{flat_map}
use Rattle.library_choice.specs.Found.{is_in, ends, found_in}
use Rattle.library_choice.specs.Search.{Same}
use Rattle.library_choice.proofs.CountLemmas.{Distinct, distinct-add, no-more}
use Rattle.library_choice.proofs.InsideLemmas.{all-by}
use Rattle.library_choice.proofs.LedLemmas.{in-add}
use Rattle.library_choice.proofs.ReachLemmas.{or-left, or-right, or-cases, in-left, in-right, in-parts, from-flat, parts-of, none-in, start-in, step-in}

abbrev pub More : {X : Type 0} → (X → X → Bool) → (X → List X) → (X → List X) → Type 0
More {X} eq next new = (x y : X) → is_in eq (next x) y ≡ true → is_in eq (new x) y ≡ true

ends-more : {X : Type 0} (eq : X → X → Bool) → Same eq → (next new : X → List X) → More eq next new → (starts : List X) (n : ℕ) (x : X) → is_in eq (ends next starts n) x ≡ true → is_in eq (ends new starts n) x ≡ true
ends-more eq s next new m starts zero x h = absurd (none-in eq next starts x h)
ends-more eq s next new m starts (suc n) x h =
    ⊎_elim (λ (g : is_in eq starts x ≡ true). start-in eq new starts n x g)
    (λ (g : is_in eq (flat_map next (ends next starts n)) x ≡ true).
    let r = from-flat eq s next (ends next starts n) x g in
    step-in eq s new starts n r.from x (ends-more eq s next new m starts n r.from r.there) (m r.from x r.on))
    (parts-of eq next starts n x h)

pub found-more : {X : Type 0} (eq : X → X → Bool) → Same eq → (next new : X → List X) → More eq next new → (classes nulls : List X) (n : ℕ) (x : X) → is_in eq (found_in eq next classes nulls n) x ≡ true → is_in eq (found_in eq new classes nulls n) x ≡ true
unfolding found_in
found-more eq s next new m classes nulls n x h =
    in-add eq s [] (ends new classes n ++ ends new nulls n) x
    ∙ ⊎_elim (λ (g : is_in eq (ends next classes n) x ≡ true). in-left eq (ends new classes n) (ends new nulls n) x (ends-more eq s next new m classes n x g))
    (λ (g : is_in eq (ends next nulls n) x ≡ true). in-right eq (ends new classes n) (ends new nulls n) x (ends-more eq s next new m nulls n x g))
    (in-parts eq (ends next classes n) (ends next nulls n) x (sym (in-add eq s [] (ends next classes n ++ ends next nulls n) x) ∙ h))

pub distinct-found : {X : Type 0} (eq : X → X → Bool) → Same eq → (next : X → List X) (classes nulls : List X) (n : ℕ) → Distinct eq (found_in eq next classes nulls n)
unfolding found_in
distinct-found eq s next classes nulls n = distinct-add eq s [] (ends next classes n ++ ends next nulls n) tt

pub record Kept {X : Type 0} (eq : X → X → Bool) (p : X → Bool) (xs : List X) (x : X) : Type 0 where
  pub there : is_in eq xs x ≡ true
  pub passes : p x ≡ true

kept-by : {X : Type 0} (eq : X → X → Bool) → Same eq → (p : X → Bool) (y : X) (ys : List X) (x : X) (v : Bool) → p y ≡ v → is_in eq (cond v (y ∷ filter p ys) (filter p ys)) x ≡ true → (is_in eq (filter p ys) x ≡ true → Kept eq p ys x) → Kept eq p (y ∷ ys) x
kept-by eq s p y ys x false e h ih = let k = ih h in record { there = or-right (eq y x) (is_in eq ys x) k.there; passes = k.passes }
kept-by eq s p y ys x true e h ih =
    ⊎_elim (λ (g : eq y x ≡ true). record { there = or-left (eq y x) (is_in eq ys x) g; passes = subst (λ z. p z ≡ true) (s.same y x g) e })
    (λ (g : is_in eq (filter p ys) x ≡ true). let k = ih g in record { there = or-right (eq y x) (is_in eq ys x) k.there; passes = k.passes })
    (or-cases (eq y x) (is_in eq (filter p ys) x) h)

pub kept : {X : Type 0} (eq : X → X → Bool) → Same eq → (p : X → Bool) (xs : List X) (x : X) → is_in eq (filter p xs) x ≡ true → Kept eq p xs x
kept eq s p [] x h = absurd (cc)
kept eq s p (y ∷ ys) x h = kept-by eq s p y ys x (p y) refl h (kept eq s p ys x)

keep-by : {X : Type 0} (eq : X → X → Bool) → Same eq → (p : X → Bool) (y : X) (ys : List X) (x : X) (v : Bool) → p y ≡ v → eq y x || is_in eq ys x ≡ true → p x ≡ true → (is_in eq ys x ≡ true → is_in eq (filter p ys) x ≡ true) → is_in eq (cond v (y ∷ filter p ys) (filter p ys)) x ≡ true
keep-by eq s p y ys x true e h t ih =
    ⊎_elim (λ (g : eq y x ≡ true). or-left (eq y x) (is_in eq (filter p ys) x) g) (λ (g : is_in eq ys x ≡ true). or-right (eq y x) (is_in eq (filter p ys) x) (ih g))
    (or-cases (eq y x) (is_in eq ys x) h)
keep-by eq s p y ys x false e h t ih =
    ⊎_elim (λ (g : eq y x ≡ true). let u : p x ≡ false = subst (λ z. p z ≡ false) (s.same y x g) e in absurd (cc)) (λ (g : is_in eq ys x ≡ true). ih g)
    (or-cases (eq y x) (is_in eq ys x) h)

pub keep : {X : Type 0} (eq : X → X → Bool) → Same eq → (p : X → Bool) (xs : List X) (x : X) → is_in eq xs x ≡ true → p x ≡ true → is_in eq (filter p xs) x ≡ true
keep eq s p [] x h t = absurd (cc)
keep eq s p (y ∷ ys) x h t = keep-by eq s p y ys x (p y) refl h t (λ g. keep eq s p ys x g t)

not-kept : {X : Type 0} (eq : X → X → Bool) → Same eq → (p : X → Bool) (xs : List X) (x : X) (v : Bool) → is_in eq (filter p xs) x ≡ v → is_in eq xs x ≡ false → is_in eq (filter p xs) x ≡ false
not-kept eq s p xs x false e h = e
not-kept eq s p xs x true e h = let k = kept eq s p xs x e in let t : is_in eq xs x ≡ true = k.there in absurd (cc)

not-passed : {X : Type 0} (eq : X → X → Bool) → Same eq → (p : X → Bool) (xs : List X) (x : X) (v : Bool) → is_in eq (filter p xs) x ≡ v → p x ≡ false → is_in eq (filter p xs) x ≡ false
not-passed eq s p xs x false e h = e
not-passed eq s p xs x true e h = let k = kept eq s p xs x e in let t : p x ≡ true = k.passes in absurd (cc)

distinct-by : {X : Type 0} (eq : X → X → Bool) → Same eq → (p : X → Bool) (y : X) (ys : List X) (v : Bool) → is_in eq ys y ≡ false → Distinct eq (filter p ys) → Distinct eq (cond v (y ∷ filter p ys) (filter p ys))
distinct-by eq s p y ys true h d = (not-kept eq s p ys y (is_in eq (filter p ys) y) refl h, d)
distinct-by eq s p y ys false h d = d

pub distinct-filter : {X : Type 0} (eq : X → X → Bool) → Same eq → (p : X → Bool) (xs : List X) → Distinct eq xs → Distinct eq (filter p xs)
distinct-filter eq s p [] d = tt
distinct-filter eq s p (y ∷ ys) d = distinct-by eq s p y ys (p y) d.0 (distinct-filter eq s p ys d.1)

-- one more is known
pub one-more : {X : Type 0} (eq : X → X → Bool) → Same eq → (p q : X → Bool) (xs ys : List X) (u : X) → Distinct eq xs → ((x : X) → is_in eq xs x ≡ true → is_in eq ys x ≡ true) → ((x : X) → p x ≡ true → q x ≡ true)
    → is_in eq xs u ≡ true → p u ≡ false → q u ≡ true → suc (length (filter p xs)) ≤ length (filter q ys)
one-more eq s p q xs ys u d there more h f t =
    no-more eq s (filter q ys) (u ∷ filter p xs)
    (not-passed eq s p xs u (is_in eq (filter p xs) u) refl f, distinct-filter eq s p xs d) (
      keep eq s q ys u (there u h) t,
      all-by eq s (filter q ys) (filter p xs) (λ x g. let k = kept eq s p xs x g in keep eq s q ys x (there x k.there) (more x k.passes)),
    )
