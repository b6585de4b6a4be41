-- Values of digits.
use Rattle.std.proofs.Common.{◌≡◌, ℕ, ◌+◌, ◌*◌, ◌^◌, ◌<◌, ◌≤◌, Bool, true, false, ◌&&◌, nat_lt, cond, List, [], ◌∷◌, ◌++◌, length, take, drop, get_or, fold, Option, Some, None, refl, inl, inr, ap, ◌∙◌, subst, arith}
use Rattle.std.proofs.lemmas.Grind.{common_steps}
use Rattle.std.proofs.lemmas.Bool.Decides.{nat_tests}
use Rattle.std.proofs.lemmas.List.Sums.{fold-append, fold_more}
use Rattle.std.proofs.lemmas.List.{take-append-drop, take_all}
use Rattle.std.proofs.lemmas.List.Folds.{list_all_at}
use Rattle.std.proofs.lemmas.Bool.{le-ltb, cases_lt}
use Rattle.std.specs.List.{list_all}
use Rattle.meta_lexer.specs.Numbers.{digit, is_digit, value_in, number_in}

step_ge : (base a d : ℕ) → 0 < base → a ≤ a * base + d
step_ge base a d h = grind arith

fold_ge : (base a : ℕ) (ds : List ℕ) → 0 < base → a ≤ fold (λ a b. a * base + digit b) a ds
fold_ge base a [] h = omega arith
fold_ge base a (b ∷ ds) h = omega (arith, step_ge base a (digit b) h, fold_ge base (a * base + digit b) ds h)

-- more digits don't make a number smaller
pub value-take : (base : ℕ) (ds : List ℕ) (i : ℕ) → 0 < base → value_in base (take i ds) ≤ value_in base ds
value-take base ds i h =
    let f : ℕ → ℕ → ℕ = λ a b. a * base + digit b in
    let e : value_in base (take i ds ++ drop i ds) ≡ fold f (value_in base (take i ds)) (drop i ds) = fold-append f 0 (take i ds) (drop i ds) in
    let whole : value_in base (take i ds ++ drop i ds) ≡ value_in base ds = ap (value_in base) (take-append-drop i ds) in
    omega (arith, fold_ge base (value_in base (take i ds)) (drop i ds) h, e, whole)

none_by : (n v : ℕ) (t : Bool) → 2 ^ 64 ≤ v → cond (nat_lt 0 n && t && nat_lt v (2 ^ 64)) (Some v) None ≡ None
none_by n v t h = grind (arith, nat_tests, common_steps)

pub none_large : (base : ℕ) (ds : List ℕ) (i : ℕ) → 2 ^ 64 ≤ value_in base (take i ds) → 0 < base → number_in base ds ≡ None
unfolding number_in
none_large base ds i large h = none_by (length ds) (value_in base ds) (list_all (is_digit base) ds) (omega (arith, value-take base ds i h))

no_digit : (n : ℕ) (v : Option ℕ) (t u : Bool) → t ≡ false → cond (nat_lt 0 n && t && u) v None ≡ None
no_digit n v t u e = grind (arith, nat_tests, common_steps)

pub none_digit : (base : ℕ) (ds : List ℕ) (i : ℕ) → i < length ds → base ≤ digit (get_or ds i 0) → number_in base ds ≡ None
unfolding number_in
none_digit base ds i l h =
    no_digit (length ds) (Some (value_in base ds)) (list_all (is_digit base) ds) (nat_lt (value_in base ds) (2 ^ 64)) (list_all_at (is_digit base) ds i 0 l (le-ltb (digit (get_or ds i 0)) base h))

-- one digit more is too much
pub none_at : (base : ℕ) (ds : List ℕ) (i v d : ℕ) → i < length ds → v ≡ value_in base (take i ds) → d ≡ digit (get_or ds i 0) → 0 < base → (v * base + d < 2 ^ 64 → ⊥) → number_in base ds ≡ None
none_at base ds i v d l e f h large =
    let g : ℕ → ℕ → ℕ = λ a b. a * base + digit b in
    let more : value_in base (take (i + 1) ds) ≡ g (value_in base (take i ds)) (get_or ds i 0) = fold_more g 0 ds i 0 l in
    let same : v * base + d ≡ value_in base (take (i + 1) ds) = rw (more, e, f) refl in
    none_large base ds (i + 1) (elim (cases_lt (v * base + d) (2 ^ 64)) [ inl lt ↦ absurd (large lt) | inr ge ↦ omega (arith, ge, same) ]) h

-- all digits are read
pub some_all : (base : ℕ) (ds : List ℕ) (i v : ℕ) → length ds ≤ i → 0 < length ds → v ≡ value_in base (take i ds) → list_all (is_digit base) (take i ds) ≡ true → v < 2 ^ 64 → Some v ≡ number_in base ds
unfolding number_in
some_all base ds i v l some e digits fits =
    let all : take i ds ≡ ds = take_all i ds l in
    let is : list_all (is_digit base) ds ≡ true = subst (λ xs. list_all (is_digit base) xs ≡ true) all digits in
    let same : v ≡ value_in base ds = e ∙ ap (value_in base) all in
    grind (arith, nat_tests, common_steps)
