-- Sums over views, and over the numbers below one.
use Rattle.std.proofs.Common.{◌≡◌, ℕ, zero, suc, ◌+◌, ◌<◌, ◌≤◌, cond, List, [], ◌∷◌, length, set, sym, refl, ap, arith, ⊎_elim, All, sum_by}
use mathlib.Core.Option.{some, some-injective, some-ne-none}
use lib.ListN.{get_elem?}
use Rattle.std.proofs.lemmas.Bool.Decides.{leb_tells}
use Rattle.std.proofs.lemmas.List.Sums.{sum_by-cons, sum_by_push}
use Rattle.drawn_waves.specs.Drawing.{upto, past, count_past}

module _ {A : Type 0} where
  pub sum_at : (f : A → ℕ) (views : List A) (id : ℕ) (v w : A) → get_elem? views id ≡ some v → sum_by f (set views id w) + f v ≡ sum_by f views + f w
  sum_at f [] id v w e = absurd (some-ne-none v (sym e))
  sum_at f (x ∷ xs) zero v w e =
      let a = sum_by-cons f w xs in let b = sum_by-cons f x xs in let c : f x ≡ f v = ap f (some-injective x v e) in omega arith
  sum_at f (x ∷ xs) (suc id) v w e =
      let a = sum_by-cons f x (set xs id w) in let b = sum_by-cons f x xs in let c = sum_at f xs id v w e in omega arith

  pub part_le : (f : A → ℕ) (views : List A) (id : ℕ) (v : A) → get_elem? views id ≡ some v → f v ≤ sum_by f views
  part_le f [] id v e = absurd (some-ne-none v (sym e))
  part_le f (x ∷ xs) zero v e = let b = sum_by-cons f x xs in let c : f x ≡ f v = ap f (some-injective x v e) in omega arith
  part_le f (x ∷ xs) (suc id) v e = let b = sum_by-cons f x xs in let c = part_le f xs id v e in omega arith

  -- one sum is at most another where each part is
  pub sums_le : (f g : A → ℕ) (views : List A) → ((id : ℕ) (v : A) → get_elem? views id ≡ some v → f v ≤ g v) → sum_by f views ≤ sum_by g views
  sums_le f g [] each = omega arith
  sums_le f g (x ∷ xs) each =
      let a = sum_by-cons f x xs in let b = sum_by-cons g x xs in let c = each 0 x refl in let d = sums_le f g xs (λ id v e. each (suc id) v e) in omega arith

  -- and less where one part is
  pub sums_lt : (f g : A → ℕ) (views : List A) (id : ℕ) (v : A) → ((j : ℕ) (u : A) → get_elem? views j ≡ some u → f u ≤ g u) → get_elem? views id ≡ some v → f v < g v → sum_by f views < sum_by g views
  sums_lt f g [] id v each e l = absurd (some-ne-none v (sym e))
  sums_lt f g (x ∷ xs) zero v each e l =
      let a = sum_by-cons f x xs in let b = sum_by-cons g x xs in let same = some-injective x v e in let c : f x ≡ f v = ap f same in let d : g x ≡ g v = ap g same in
      let r = sums_le f g xs (λ j u at. each (suc j) u at) in omega arith
  sums_lt f g (x ∷ xs) (suc id) v each e l =
      let a = sum_by-cons f x xs in let b = sum_by-cons g x xs in let c = each 0 x refl in let r = sums_lt f g xs id v (λ j u at. each (suc j) u at) e l in omega arith

  pub none_where_none : (f g : A → ℕ) (views : List A) → ((id : ℕ) (v : A) → get_elem? views id ≡ some v → g v ≡ 0 → f v ≡ 0) → sum_by g views ≡ 0 → sum_by f views ≡ 0
  none_where_none f g [] each none = omega arith
  none_where_none f g (x ∷ xs) each none =
      let a = sum_by-cons f x xs in let b = sum_by-cons g x xs in let c = each 0 x refl (omega arith) in let d = none_where_none f g xs (λ id v e. each (suc id) v e) (omega arith) in omega arith

  -- who has all of one sum has all of another, where a part without the one is without the other
  pub all_alone : (f g : A → ℕ) (views : List A) (id : ℕ) (v : A) → ((j : ℕ) (u : A) → get_elem? views j ≡ some u → g u ≡ 0 → f u ≡ 0) → get_elem? views id ≡ some v → g v ≡ sum_by g views → f v ≡ sum_by f views
  all_alone f g [] id v each e all = absurd (some-ne-none v (sym e))
  all_alone f g (x ∷ xs) zero v each e all =
      let a = sum_by-cons f x xs in let b = sum_by-cons g x xs in let same = some-injective x v e in let c : f x ≡ f v = ap f same in let d : g x ≡ g v = ap g same in
      let r = none_where_none f g xs (λ j u at. each (suc j) u at) (omega arith) in omega arith
  all_alone f g (x ∷ xs) (suc id) v each e all =
      let a = sum_by-cons f x xs in let b = sum_by-cons g x xs in let m = part_le g xs id v e in let z = each 0 x refl (omega arith) in
      let r = all_alone f g xs id v (λ j u at. each (suc j) u at) e (omega arith) in omega arith

pub past_is : (n x : ℕ) → n ≤ x → past n x ≡ 1
past_is n x le = ⊎_elim (λ t. ap (λ b. cond b 1 0) t.0) (λ t. let l = t.1 in absurd (omega arith)) (leb_tells n x)

pub past_none : (n x : ℕ) → x < n → past n x ≡ 0
past_none n x lt = ⊎_elim (λ t. let l = t.1 in absurd (omega arith)) (λ t. ap (λ b. cond b 1 0) t.0) (leb_tells n x)

pub past_le : (n x : ℕ) → past n x ≤ 1
past_le n x = ⊎_elim (λ t. let e = past_is n x t.1 in omega arith) (λ t. let e = past_none n x t.1 in omega arith) (leb_tells n x)

-- so many numbers below k are at or past n
pub upto_past : (n k : ℕ) → k ≤ n + count_past n (upto k)
unfolding upto
upto_past n zero = omega arith
upto_past n (suc k) = let a = sum_by_push (past n) (upto k) k in let b = upto_past n k in
    ⊎_elim (λ t. let e = past_is n k t.1 in omega arith) (λ t. let l = t.1 in omega arith) (leb_tells n k)

pub upto_none : (n k : ℕ) → k ≤ n → count_past n (upto k) ≡ 0
unfolding upto
upto_none n zero le = refl
upto_none n (suc k) le = let a = sum_by_push (past n) (upto k) k in let b = upto_none n k (omega arith) in let c = past_none n k (omega arith) in omega arith

pub upto_more : (weight : ℕ → ℕ) (k : ℕ) → sum_by weight (upto (suc k)) ≡ sum_by weight (upto k) + weight k
unfolding upto
upto_more weight k = sum_by_push weight (upto k) k

-- how many numbers there are
pub count_all : (xs : List ℕ) → sum_by (λ (x : ℕ). 1) xs ≡ length xs
count_all [] = refl
count_all (x ∷ xs) = let a = sum_by-cons (λ (y : ℕ). 1) x xs in let b = count_all xs in omega arith

pub count_upto : (n : ℕ) → sum_by (λ (x : ℕ). 1) (upto n) ≡ n
unfolding upto
count_upto zero = refl
count_upto (suc n) = let a = sum_by_push (λ (x : ℕ). 1) (upto n) n in let b = count_upto n in omega arith

pub none_past : (n : ℕ) (xs : List ℕ) → count_past n xs ≡ 0 → All (λ x. x < n) xs
none_past n [] e k d l = absurd (omega arith)
none_past n (x ∷ xs) e zero d l = let a = sum_by-cons (past n) x xs in ⊎_elim (λ t. let b = past_is n x t.1 in absurd (omega arith)) (λ t. t.1) (leb_tells n x)
none_past n (x ∷ xs) e (suc k) d l = let a = sum_by-cons (past n) x xs in none_past n xs (omega arith) k d (omega arith)

pub past_none_all : (n : ℕ) (xs : List ℕ) → All (λ x. x < n) xs → count_past n xs ≡ 0
past_none_all n [] h = refl
past_none_all n (x ∷ xs) h = let a = sum_by-cons (past n) x xs in let b = past_none n x (h 0 0 (omega arith)) in let c = past_none_all n xs (λ k d l. h (suc k) d (omega arith)) in omega arith
