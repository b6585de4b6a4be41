-- Walks by parents that end at DEFAULT.
use Rattle.std.proofs.Common.{◌≡◌, ◌∙◌, ◌+◌, ◌-◌, ℕ, zero, suc, List, length, Option, Some, None, codes, refl, sym, ap, arith}
use Rattle.std.specs.Option.{option_and_then}
use Rattle.doc_types.specs.declared.platform.Sku.{Sku}
use Rattle.doc_types.specs.SkuWalks.{parent, after, EndsAtDefault}

default_ends : (skus : List Sku) → parent skus (codes "DEFAULT") ≡ None
unfolding parent
default_ends skus = refl

behind_parent : (skus : List Sku) (n m : ℕ) (up : Option (List ℕ)) → ((next : List ℕ) → after skus next n ≡ Some (codes "DEFAULT") → after skus next m ≡ None)
    → option_and_then (λ next. after skus next n) up ≡ Some (codes "DEFAULT") → option_and_then (λ next. after skus next m) up ≡ None
behind_parent skus n m None rest h = absurd cc
behind_parent skus n m (Some next) rest h = rest next h

behind : (skus : List Sku) (n k : ℕ) (name : List ℕ) → after skus name n ≡ Some (codes "DEFAULT") → after skus name (n + suc k) ≡ None
unfolding after
behind skus zero k name e =
    let at : name ≡ codes "DEFAULT" = cc in
    let first : 0 + suc k ≡ suc k = omega arith in
    ap (after skus name) first
    ∙ ap (λ x. option_and_then (λ next. after skus next k) (parent skus x)) at ∙ ap (option_and_then (λ next. after skus next k)) (default_ends skus)
behind skus (suc n) k name e =
    let next : suc n + suc k ≡ suc (n + suc k) = omega arith in
    ap (after skus name) next ∙ behind_parent skus n (n + suc k) (parent skus name) (λ x h. behind skus n k x h) e

-- the walk has ended after one step more than there are SKUs
pub walk_ends : (skus : List Sku) (name : List ℕ) → EndsAtDefault skus name → after skus name (length skus + 1) ≡ None
walk_ends skus name h =
    let few = h.few in
    let far : length skus + 1 ≡ h.steps + suc (length skus - h.steps) = omega arith in
    ap (after skus name) far ∙ behind skus h.steps (length skus - h.steps) name h.there

-- The parent is nearer to DEFAULT than its SKU: one step less leads there.
pub parent_ends : (skus : List Sku) (name next : List ℕ) (steps : ℕ) → parent skus name ≡ Some next
    → after skus name (suc steps) ≡ Some (codes "DEFAULT") → after skus next steps ≡ Some (codes "DEFAULT")
unfolding after
parent_ends skus name next steps p h = sym (ap (option_and_then (λ n. after skus n steps)) p) ∙ h
