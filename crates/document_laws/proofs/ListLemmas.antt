-- Elements of lists that pass a test.
use Rattle.std.proofs.Common.{◌≡◌, ℕ, ◌+◌, cond, Bool, true, List, [], ◌∷◌, ◌++◌, length, refl, ap, ◌∙◌, arith}
use Rattle.std.specs.List.{list_all, prefix_len}
use Rattle.std.proofs.lemmas.Bool.{and_parts, and_from}

-- what passes, before what follows
pub prefix_passed : (p : ℕ → Bool) (xs ys : List ℕ) → list_all p xs ≡ true → prefix_len p (xs ++ ys) ≡ length xs + prefix_len p ys
prefix_passed p [] ys e = omega arith
prefix_passed p (x ∷ xs) ys e =
    let parts = and_parts (p x) (list_all p xs) e in
    let rest = prefix_passed p xs ys parts.1 in
    ap (λ t. cond t (1 + prefix_len p (xs ++ ys)) 0) parts.0 ∙ omega (arith, rest)

pub all_weaker : (p q : ℕ → Bool) → ((b : ℕ) → p b ≡ true → q b ≡ true) → (xs : List ℕ) → list_all p xs ≡ true → list_all q xs ≡ true
all_weaker p q w [] e = refl
all_weaker p q w (x ∷ xs) e = let parts = and_parts (p x) (list_all p xs) e in and_from (q x) (list_all q xs) (w x parts.0) (all_weaker p q w xs parts.1)

pub all_both : (p : ℕ → Bool) (xs ys : List ℕ) → list_all p xs ≡ true → list_all p ys ≡ true → list_all p (xs ++ ys) ≡ true
all_both p [] ys e f = f
all_both p (x ∷ xs) ys e f = let parts = and_parts (p x) (list_all p xs) e in and_from (p x) (list_all p (xs ++ ys)) parts.0 (all_both p xs ys parts.1 f)
