-- The walk along parents.
use Rattle.std.proofs.Common.{arith, ◌≡◌, ◌<◌, ◌-◌, ℕ, zero, suc, List, Option, Some, None, refl, ap}
use Rattle.std.specs.Option.{option_and_then}
use Rattle.build_base.specs.First.{or_else}
use Rattle.doc_types.specs.declared.platform.Sku.{Sku}
use Rattle.doc_types.specs.declared.values.SkuRow.{SkuRow}
use Rattle.doc_types.specs.SkuWalks.{parent, after}
use Rattle.pcd_values.specs.Skus.{own_value, value_within}

of_next : {A : Type 0} (f g : List ℕ → Option A) (p q : List ℕ → Option (List ℕ)) (next : Option (List ℕ))
    → ((x : List ℕ) → p x ≡ None → q x ≡ None → f x ≡ g x)
    → option_and_then p next ≡ None → option_and_then q next ≡ None → option_and_then f next ≡ option_and_then g next
of_next f g p q None same a b = refl
of_next f g p q (Some x) same a b = same x a b

-- once the walk has ended, more steps change nothing
pub within_is : (rows : List SkuRow) (skus : List Sku) (name : List ℕ) (n m : ℕ) → after skus name n ≡ None → after skus name m ≡ None → value_within rows skus name n ≡ value_within rows skus name m
unfolding after value_within
within_is rows skus name zero m e f = absurd cc
within_is rows skus name (suc n) zero e f = absurd cc
within_is rows skus name (suc n) (suc m) e f =
    ap (or_else (own_value rows name))
    (of_next (λ x. value_within rows skus x n) (λ x. value_within rows skus x m) (λ x. after skus x n) (λ x. after skus x m) (parent skus name)
    (λ x a b. within_is rows skus x n m a b) e f)

-- the walk begins with its SKU
pub within_step : (rows : List SkuRow) (skus : List Sku) (name : List ℕ) (n : ℕ) → 0 < n
    → value_within rows skus name n ≡ or_else (own_value rows name) (option_and_then (λ next. value_within rows skus next (n - 1)) (parent skus name))
unfolding value_within
within_step rows skus name zero h = absurd (omega (arith, h))
within_step rows skus name (suc n) h =
    let same : n ≡ suc n - 1 = omega arith in
    ap (λ k. or_else (own_value rows name) (option_and_then (λ next. value_within rows skus next k) (parent skus name))) same

pub within_none : (rows : List SkuRow) (skus : List Sku) (name : List ℕ) (n : ℕ) → (0 < n → ⊥) → value_within rows skus name n ≡ None
unfolding value_within
within_none rows skus name zero h = refl
within_none rows skus name (suc n) h = absurd (h (omega arith))
