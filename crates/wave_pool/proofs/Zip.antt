-- Answers side by side with what they answer.
use Rattle.std.proofs.Common.{◌≡◌, ℕ, List, [], ◌∷◌, ◌++◌, ◌∙◌, sym, subst, ap, refl, arith, take, drop, length, Result, Ok, Err, All, Contains, append_assoc, append-nil}
use Rattle.std.specs.Prelude.{IfOk}
use Rattle.std.specs.List.{AllZip}
use Rattle.std.proofs.lemmas.List.{take-append-drop}
use Rattle.std.proofs.lemmas.List.Elements.{All-contains, Contains-append_right}
use Rattle.wave_pool.specs.Wave.{Both}

pub zip_append : {A B : Type 0} (R : A → B → Type 0) (xs us : List A) (ys vs : List B) → AllZip R xs ys → AllZip R us vs → AllZip R (xs ++ us) (ys ++ vs)
zip_append R [] us [] vs a b = b
zip_append R [] us (y ∷ ys) vs a b = absurd a
zip_append R (x ∷ xs) us [] vs a b = absurd a
zip_append R (x ∷ xs) us (y ∷ ys) vs a b = (a.0, zip_append R xs us ys vs a.1 b)

pub zip_push : {A B : Type 0} (R : A → B → Type 0) (xs : List A) (ys : List B) (x : A) (y : B) → AllZip R xs ys → R x y → AllZip R (xs ++ x ∷ []) (ys ++ y ∷ [])
zip_push R xs ys x y a h = zip_append R xs (x ∷ []) ys (y ∷ []) a (h, tt)

pub zip_halves : {A B : Type 0} (R : A → B → Type 0) (xs low high : List A) (n : ℕ) (ys vs : List B) → low ≡ take n xs → high ≡ drop n xs → AllZip R low ys → AllZip R high vs → AllZip R xs (ys ++ vs)
zip_halves {A} {B} R xs low high n ys vs l h a b =
    let e : low ++ high ≡ xs = rw (l, h) (take-append-drop n xs) in
    subst (λ (zs : List A). AllZip R zs (ys ++ vs)) e (zip_append R low high ys vs a b)

pub both_halves : {A B Y E : Type 0} (R : A → B → Type 0) (of : Y → List B) (xs low high : List A) (n : ℕ) (first second result : Result Y E) → low ≡ take n xs → high ≡ drop n xs
    → IfOk first (λ y. AllZip R low (of y)) → IfOk second (λ y. AllZip R high (of y)) → IfOk result (λ all. Both of first second (of all)) → IfOk result (λ all. AllZip R xs (of all))
both_halves R of xs low high n first second (Err e) l h a b both = tt
both_halves R of xs low high n first second (Ok all) l h a b both =
    let p = subst (λ r. IfOk r (λ y. AllZip R low (of y))) both.2 a in
    let q = subst (λ r. IfOk r (λ y. AllZip R high (of y))) both.3 b in
    subst (λ zs. AllZip R xs zs) (sym both.4) (zip_halves R xs low high n (of both.0) (of both.1) l h p q)

-- the items before the rest have their answers
pub record IsWorking {A B : Type 0} (R : A → B → Type 0) (items rest : List A) (ys : List B) : Type 0 where
  pub done : List A
  pub all : items ≡ done ++ rest
  pub answers : AllZip R done ys

pub working_none : {A B : Type 0} (R : A → B → Type 0) (items rest : List A) (ys : List B) → rest ≡ items → ys ≡ [] → IsWorking R items rest ys
working_none R items rest ys e n = record { done = []; all = sym e; answers = rw n tt }

pub working_more : {A B : Type 0} (R : A → B → Type 0) (items rest more : List A) (x : A) (ys next : List B) (y : B) → IsWorking R items rest ys → rest ≡ x ∷ more → next ≡ ys ++ y ∷ [] → R x y → IsWorking R items more next
working_more {A} {B} R items rest more x ys next y w e n h = record {
  done = w.done ++ x ∷ [];
  all = w.all ∙ (ap (λ r. w.done ++ r) e ∙ sym (append_assoc w.done (x ∷ []) more));
  answers = subst (λ (zs : List B). AllZip R (w.done ++ x ∷ []) zs) (sym n) (zip_push R w.done ys x y w.answers h);
}

pub working_item : {A B : Type 0} (P : A → Type 0) (R : A → B → Type 0) (items rest more : List A) (x : A) (ys : List B) → All P items → IsWorking R items rest ys → rest ≡ x ∷ more → P x
working_item {A} P R items rest more x ys h w e =
    let is : items ≡ w.done ++ (x ∷ more) = w.all ∙ ap (λ r. w.done ++ r) e in
    All-contains P items x h (subst (λ (zs : List A). Contains zs x) (sym is) (Contains-append_right w.done (x ∷ more) x (0, omega arith, refl)))

pub working_all : {A B : Type 0} (R : A → B → Type 0) (items rest : List A) (ys : List B) → IsWorking R items rest ys → length rest ≡ 0 → AllZip R items ys
working_all {A} R items [] ys w e = subst (λ (zs : List A). AllZip R zs ys) (sym (w.all ∙ append-nil w.done)) w.answers
working_all R items (x ∷ xs) ys w e = absurd (omega (arith, e))
