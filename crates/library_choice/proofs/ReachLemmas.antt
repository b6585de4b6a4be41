-- Ends of walks from an end are ends.
use Rattle.std.proofs.Common.{◌≡◌, ◌⊎◌, ◌||◌, inl, inr, ⊎_elim, ℕ, zero, suc, ◌+◌, Bool, true, false, List, [], ◌∷◌, ◌++◌, refl, sym, ap, ◌∙◌, subst, arith}
use Rattle.std.specs.List.{flat_map}
use Rattle.std.proofs.lemmas.List.Folds.{list_any-append}
use Rattle.library_choice.specs.Found.{is_in, ends}
use Rattle.library_choice.specs.Search.{Same}

pub or-cases : (a b : Bool) → a || b ≡ true → (a ≡ true) ⊎ (b ≡ true)
or-cases true b e = inl refl
or-cases false b e = inr e

pub or-left : (a b : Bool) → a ≡ true → a || b ≡ true
or-left a b e = ap (λ v. v || b) e

pub or-right : (a b : Bool) → b ≡ true → a || b ≡ true
or-right true b e = refl
or-right false b e = e

pub in-left : {X : Type 0} (eq : X → X → Bool) (xs ys : List X) (x : X) → is_in eq xs x ≡ true → is_in eq (xs ++ ys) x ≡ true
in-left eq xs ys x h = list_any-append (λ y. eq y x) xs ys ∙ or-left (is_in eq xs x) (is_in eq ys x) h

pub in-right : {X : Type 0} (eq : X → X → Bool) (xs ys : List X) (x : X) → is_in eq ys x ≡ true → is_in eq (xs ++ ys) x ≡ true
in-right eq xs ys x h = list_any-append (λ y. eq y x) xs ys ∙ or-right (is_in eq xs x) (is_in eq ys x) h

pub in-parts : {X : Type 0} (eq : X → X → Bool) (xs ys : List X) (x : X) → is_in eq (xs ++ ys) x ≡ true → (is_in eq xs x ≡ true) ⊎ (is_in eq ys x ≡ true)
in-parts eq xs ys x h = or-cases (is_in eq xs x) (is_in eq ys x) (sym (list_any-append (λ y. eq y x) xs ys) ∙ h)

pub in-flat : {X : Type 0} (eq : X → X → Bool) → Same eq → (next : X → List X) (l : List X) (y x : X) → is_in eq l y ≡ true → is_in eq (next y) x ≡ true → is_in eq (flat_map next l) x ≡ true
in-flat eq s next [] y x h g = absurd (cc)
in-flat eq s next (z ∷ l) y x h g =
    ⊎_elim (λ (e : eq z y ≡ true). in-left eq (next z) (flat_map next l) x (subst (λ w. is_in eq (next w) x ≡ true) (sym (s.same z y e)) g))
    (λ (there : is_in eq l y ≡ true). in-right eq (next z) (flat_map next l) x (in-flat eq s next l y x there g))
    (or-cases (eq z y) (is_in eq l y) h)

pub record Through {X : Type 0} (eq : X → X → Bool) (next : X → List X) (l : List X) (x : X) : Type 0 where
  pub from : X
  pub there : is_in eq l from ≡ true
  pub on : is_in eq (next from) x ≡ true

pub from-flat : {X : Type 0} (eq : X → X → Bool) → Same eq → (next : X → List X) (l : List X) (x : X) → is_in eq (flat_map next l) x ≡ true → Through eq next l x
from-flat eq s next [] x h = absurd (cc)
from-flat eq s next (z ∷ l) x h =
    ⊎_elim (λ (g : is_in eq (next z) x ≡ true). record { from = z; there = or-left (eq z z) (is_in eq l z) (s.itself z); on = g })
    (λ (g : is_in eq (flat_map next l) x ≡ true). let r = from-flat eq s next l x g in record { from = r.from; there = or-right (eq z r.from) (is_in eq l r.from) r.there; on = r.on })
    (in-parts eq (next z) (flat_map next l) x h)

pub step-in : {X : Type 0} (eq : X → X → Bool) → Same eq → (next : X → List X) (starts : List X) (n : ℕ) (y x : X) → is_in eq (ends next starts n) y ≡ true → is_in eq (next y) x ≡ true → is_in eq (ends next starts (suc n)) x ≡ true
unfolding ends
step-in eq s next starts n y x h g = in-right eq starts (flat_map next (ends next starts n)) x (in-flat eq s next (ends next starts n) y x h g)

pub parts-of : {X : Type 0} (eq : X → X → Bool) (next : X → List X) (starts : List X) (n : ℕ) (x : X) → is_in eq (ends next starts (suc n)) x ≡ true → (is_in eq starts x ≡ true) ⊎ (is_in eq (flat_map next (ends next starts n)) x ≡ true)
unfolding ends
parts-of eq next starts n x h = in-parts eq starts (flat_map next (ends next starts n)) x h

pub start-in : {X : Type 0} (eq : X → X → Bool) (next : X → List X) (starts : List X) (n : ℕ) (x : X) → is_in eq starts x ≡ true → is_in eq (ends next starts (suc n)) x ≡ true
unfolding ends
start-in eq next starts n x h = in-left eq starts (flat_map next (ends next starts n)) x h

pub none-in : {X : Type 0} (eq : X → X → Bool) (next : X → List X) (starts : List X) (x : X) → is_in eq (ends next starts 0) x ≡ true → ⊥
unfolding ends
none-in eq next starts x h = absurd (cc)

stays-in : {X : Type 0} (eq : X → X → Bool) → Same eq → (next : X → List X) (starts : List X) (n : ℕ) (x : X) → is_in eq (ends next starts n) x ≡ true → is_in eq (ends next starts (suc n)) x ≡ true
stays-in eq s next starts zero x h = absurd (none-in eq next starts x h)
stays-in eq s next starts (suc n) x h =
    ⊎_elim (λ (g : is_in eq starts x ≡ true). start-in eq next starts (suc n) x g)
    (λ (g : is_in eq (flat_map next (ends next starts n)) x ≡ true). let r = from-flat eq s next (ends next starts n) x g in step-in eq s next starts (suc n) r.from x (stays-in eq s next starts n r.from r.there) r.on)
    (parts-of eq next starts n x h)

pub stays-more : {X : Type 0} (eq : X → X → Bool) → Same eq → (next : X → List X) (starts : List X) (n d : ℕ) (x : X) → is_in eq (ends next starts n) x ≡ true → is_in eq (ends next starts (n + d)) x ≡ true
stays-more eq s next starts n zero x h = let e : n ≡ n + 0 = omega arith in subst (λ k. is_in eq (ends next starts k) x ≡ true) e h
stays-more eq s next starts n (suc d) x h = let e : suc (n + d) ≡ n + suc d = omega arith in subst (λ k. is_in eq (ends next starts k) x ≡ true) e (stays-in eq s next starts (n + d) x (stays-more eq s next starts n d x h))

-- what an end reaches is an end
pub onward : {X : Type 0} (eq : X → X → Bool) → Same eq → (next : X → List X) (starts : List X) (n m : ℕ) (y x : X) → is_in eq (ends next starts n) y ≡ true → is_in eq (ends next (next y) m) x ≡ true → is_in eq (ends next starts (n + m)) x ≡ true
onward eq s next starts n zero y x h g = absurd (none-in eq next (next y) x g)
onward eq s next starts n (suc m) y x h g =
    let e : suc (n + m) ≡ n + suc m = omega arith in
    subst (λ k. is_in eq (ends next starts k) x ≡ true) e
    (⊎_elim (λ (first : is_in eq (next y) x ≡ true). step-in eq s next starts (n + m) y x (stays-more eq s next starts n m y h) first)
    (λ (later : is_in eq (flat_map next (ends next (next y) m)) x ≡ true).
    let r = from-flat eq s next (ends next (next y) m) x later in
    step-in eq s next starts (n + m) r.from x (onward eq s next starts n m y r.from h r.there) r.on)
    (parts-of eq next (next y) m x g))
