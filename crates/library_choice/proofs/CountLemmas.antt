-- Lists without repeats, and how many items they have.
use Rattle.std.proofs.Common.{◌≡◌, ◌∙◌, ◌||◌, ℕ, suc, ◌≤◌, Bool, true, false, not, cond, List, [], ◌∷◌, ◌++◌, length, refl, sym, ap, subst, arith}
use Rattle.std.specs.Prelude.{filter}
use Rattle.std.proofs.lemmas.List.Folds.{list_any-append}
use Rattle.library_choice.specs.Found.{is_in, put, add}
use Rattle.library_choice.specs.Search.{Same, AllIn}

abbrev pub Distinct : {X : Type 0} → (X → X → Bool) → List X → Type 0
Distinct eq [] = Unit {0}
Distinct eq (x ∷ xs) = (is_in eq xs x ≡ false) × Distinct eq xs

other-way : {X : Type 0} (eq : X → X → Bool) → Same eq → (x y : X) (v : Bool) → eq y x ≡ v → eq x y ≡ false → eq y x ≡ false
other-way eq s x y false e h = e
other-way eq s x y true e h =
    let same : y ≡ x = s.same y x e in
    let is : eq x y ≡ true = subst (λ z. eq x z ≡ true) (sym same) (s.itself x) in
    absurd (cc)

or-parts : (a b : Bool) → a || b ≡ false → (a ≡ false) × (b ≡ false)
or-parts true b e = absurd (cc)
or-parts false b e = (refl, e)

or-both : (a b : Bool) → a ≡ false → b ≡ false → a || b ≡ false
or-both a b e f = ap (λ v. v || b) e ∙ f

distinct-end : {X : Type 0} (eq : X → X → Bool) → Same eq → (b : List X) (y : X) → Distinct eq b → is_in eq b y ≡ false → Distinct eq (b ++ y ∷ [])
distinct-end eq s [] y d h = (refl, tt)
distinct-end eq s (x ∷ b) y d h =
    let parts = or-parts (eq x y) (is_in eq b y) h in
    let apart : eq y x ≡ false = other-way eq s x y (eq y x) refl parts.0 in (
      list_any-append (λ z. eq z x) b (y ∷ []) ∙ or-both (is_in eq b x) (eq y x || false) d.0 (or-both (eq y x) false apart refl),
      distinct-end eq s b y d.1 parts.1,
    )

distinct-put : {X : Type 0} (eq : X → X → Bool) → Same eq → (b : List X) (y : X) (v : Bool) → is_in eq b y ≡ v → Distinct eq b → Distinct eq (cond v b (b ++ y ∷ []))
distinct-put eq s b y true e d = d
distinct-put eq s b y false e d = distinct-end eq s b y d e

pub distinct-add : {X : Type 0} (eq : X → X → Bool) → Same eq → (b xs : List X) → Distinct eq b → Distinct eq (add eq b xs)
unfolding add
distinct-add eq s b [] d = d
distinct-add eq s b (y ∷ ys) d = distinct-add eq s (put eq b y) ys (distinct-put eq s b y (is_in eq b y) refl d)

-- all but one
abbrev pub but : {X : Type 0} → (X → X → Bool) → List X → X → List X
but eq ys x = filter (λ y. not (eq y x)) ys

but-length-by : {X : Type 0} (eq : X → X → Bool) (y : X) (ys : List X) (x : X) (v : Bool) → eq y x ≡ v → v || is_in eq ys x ≡ true
    → length (but eq ys x) ≤ length ys → (is_in eq ys x ≡ true → suc (length (but eq ys x)) ≤ length ys) → suc (length (cond (not v) (y ∷ but eq ys x) (but eq ys x))) ≤ suc (length ys)
but-length-by eq y ys x true e h few ih = omega (arith, few)
but-length-by eq y ys x false e h few ih = omega (arith, ih h)

but-few-by : {X : Type 0} (y : X) (rest : List X) (n : ℕ) (v : Bool) → length rest ≤ n → length (cond (not v) (y ∷ rest) rest) ≤ suc n
but-few-by y rest n true h = omega (arith, h)
but-few-by y rest n false h = omega (arith, h)

but-few : {X : Type 0} (eq : X → X → Bool) (ys : List X) (x : X) → length (but eq ys x) ≤ length ys
but-few eq [] x = omega arith
but-few eq (y ∷ ys) x = but-few-by y (but eq ys x) (length ys) (eq y x) (but-few eq ys x)

but-length : {X : Type 0} (eq : X → X → Bool) (ys : List X) (x : X) → is_in eq ys x ≡ true → suc (length (but eq ys x)) ≤ length ys
but-length eq [] x h = absurd (cc)
but-length eq (y ∷ ys) x h = but-length-by eq y ys x (eq y x) refl h (but-few eq ys x) (but-length eq ys x)

but-in-by : {X : Type 0} (eq : X → X → Bool) → Same eq → (y : X) (ys : List X) (x z : X) (v w : Bool) → eq y x ≡ v → eq y z ≡ w → w || is_in eq ys z ≡ true → eq x z ≡ false
    → (is_in eq ys z ≡ true → is_in eq (but eq ys x) z ≡ true) → is_in eq (cond (not v) (y ∷ but eq ys x) (but eq ys x)) z ≡ true
but-in-by eq s y ys x z true true e f h apart ih =
    let there : eq x z ≡ true = subst (λ q. eq q z ≡ true) (s.same y x e) f in
    absurd (cc)
but-in-by eq s y ys x z true false e f h apart ih = ih h
but-in-by eq s y ys x z false true e f h apart ih = ap (λ v. v || is_in eq (but eq ys x) z) f
but-in-by eq s y ys x z false false e f h apart ih = ap (λ v. v || is_in eq (but eq ys x) z) f ∙ ih h

but-in : {X : Type 0} (eq : X → X → Bool) → Same eq → (ys : List X) (x z : X) → is_in eq ys z ≡ true → eq x z ≡ false → is_in eq (but eq ys x) z ≡ true
but-in eq s [] x z h apart = absurd (cc)
but-in eq s (y ∷ ys) x z h apart = but-in-by eq s y ys x z (eq y x) (eq y z) refl refl h apart (λ there. but-in eq s ys x z there apart)

others-in : {X : Type 0} (eq : X → X → Bool) → Same eq → (ys : List X) (x : X) (xs : List X) → is_in eq xs x ≡ false → AllIn eq ys xs → AllIn eq (but eq ys x) xs
others-in eq s ys x [] h all = tt
others-in eq s ys x (z ∷ xs) h all =
    let parts = or-parts (eq z x) (is_in eq xs x) h in
    let apart : eq x z ≡ false = other-way eq s z x (eq x z) refl parts.0 in
    (but-in eq s ys x z all.0 apart, others-in eq s ys x xs parts.1 all.1)

-- a list without repeats is no longer than one that has all its items
pub no-more : {X : Type 0} (eq : X → X → Bool) → Same eq → (ys xs : List X) → Distinct eq xs → AllIn eq ys xs → length xs ≤ length ys
no-more eq s ys [] d all = omega arith
no-more eq s ys (x ∷ xs) d all =
    omega (arith, no-more eq s (but eq ys x) xs d.1 (others-in eq s ys x xs d.0 all.1), but-length eq ys x all.0)
