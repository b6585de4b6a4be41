-- Images cut into pieces at other places.
use Rattle.std.proofs.Common.{◌≡◌, ℕ, ◌↔◌, Bool, true, false, not, List, [], ◌∷◌, ◌++◌, length, take, drop, refl, ap, sym, ◌∙◌, arith, append_assoc}
use Rattle.std.proofs.lemmas.List.{take-append-drop}
use Rattle.std.specs.Prelude.{nat_eq}
use Rattle.std.specs.Cmp.Lexicographic.{pointwise, same_text, other_text}

-- lists whose beginnings are as long are the same where both parts are
parts_same : (a b x y : List ℕ) → length a ≡ length b → a ++ x ≡ b ++ y → (a ≡ b) × (x ≡ y)
parts_same [] [] x y l e = (refl, e)
parts_same [] (q ∷ b) x y l e = absurd (omega (arith, l))
parts_same (p ∷ a) [] x y l e = absurd (omega (arith, l))
parts_same (p ∷ a) (q ∷ b) x y l e =
    let h : p ≡ q = cc in
    let t : a ++ x ≡ b ++ y = cc in
    let r = parts_same a b x y (omega (arith, l)) t in
    let s : a ≡ b = r.0 in
    (cc, r.1)

cut : (xs ys : List ℕ) (n : ℕ) → xs ++ ys ≡ take n xs ++ (drop n xs ++ ys)
cut xs ys n = ap (λ z. z ++ ys) (sym (take-append-drop n xs)) ∙ append_assoc (take n xs) (drop n xs) ys

-- as many equal bytes of both are left out
pub step_same : (n : ℕ) (xs ys ls rs : List ℕ) → take n xs ≡ take n ys → (drop n xs ++ ls ≡ drop n ys ++ rs) ↔ (xs ++ ls ≡ ys ++ rs)
step_same n xs ys ls rs e = (
  λ s. cut xs ls n ∙ ap (λ z. z ++ (drop n xs ++ ls)) e ∙ ap (λ z. take n ys ++ z) s ∙ sym (cut ys rs n),
  λ s. (parts_same (take n xs) (take n ys) (drop n xs ++ ls) (drop n ys ++ rs) (ap length e) (sym (cut xs ls n) ∙ s ∙ cut ys rs n)).1,
)

-- as many bytes that differ
pub step_differs : (n : ℕ) (xs ys ls rs : List ℕ) → length (take n xs) ≡ length (take n ys) → (take n xs ≡ take n ys → ⊥) → xs ++ ls ≡ ys ++ rs → ⊥
step_differs n xs ys ls rs l ne s =
    ne (parts_same (take n xs) (take n ys) (drop n xs ++ ls) (drop n ys ++ rs) l (sym (cut xs ls n) ∙ s ∙ cut ys rs n)).0

-- what a test of two texts has told
pub told_same : (r : Bool) (xs ys : List ℕ) → r ≡ not (pointwise nat_eq xs ys) → r ≡ false → xs ≡ ys
told_same r xs ys e f =
    elim (pointwise nat_eq xs ys) as (λ b. pointwise nat_eq xs ys ≡ b → r ≡ not b → xs ≡ ys) [
      | true ↦ λ p n. same_text xs ys (sym p)
      | false ↦ λ p n. absurd cc
    ] refl e

pub told_other : (r : Bool) (xs ys : List ℕ) → r ≡ not (pointwise nat_eq xs ys) → r ≡ true → xs ≡ ys → ⊥
told_other r xs ys e f =
    elim (pointwise nat_eq xs ys) as (λ b. pointwise nat_eq xs ys ≡ b → r ≡ not b → xs ≡ ys → ⊥) [
      | true ↦ λ p n s. absurd cc
      | false ↦ λ p n. other_text xs ys (sym p)
    ] refl e

pub both_ways : {A B C : Type 0} → A ↔ B → B ↔ C → A ↔ C
both_ways p q = (λ a. q.0 (p.0 a), λ c. p.1 (q.1 c))

pub moved : (a b c d : List ℕ) → a ≡ b → c ≡ d → (a ≡ c) ↔ (b ≡ d)
moved a b c d p q = (λ s. sym p ∙ s ∙ q, λ t. p ∙ t ∙ sym q)
