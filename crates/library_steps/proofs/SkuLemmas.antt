-- The walk along parents to DEFAULT.
use Rattle.std.specs.Prelude.{◌||◌}
use Rattle.std.proofs.Common.{arith, ◌≡◌, ◌<◌, ◌≤◌, ◌-◌, ℕ, zero, suc, true, false, List, [], ◌∷◌, length, Option, Some, None, refl, sym, ap, ◌∙◌, All, codes}
use Rattle.std.proofs.lemmas.List.Elements.{All-nil, All-cons}
use Rattle.std.specs.Cmp.Lexicographic.{same_text}
use Rattle.build_stages.specs.Bounds.{both_hold}
use Rattle.std.specs.List.{list_all}
use Rattle.std.specs.Option.{option_map, option_and_then}
use Rattle.doc_types.specs.declared.platform.Sku.{Sku}
use Rattle.doc_types.specs.SkuWalks.{parent, after, EndsAtDefault}
use Rattle.pcd_resolve.specs.Platform.{SkusEnd}
use Rattle.library_steps.specs.Skus.{or_not, is_default, reaches, skus_end}

pub reaches_step : (skus : List Sku) (name : List ℕ) (n : ℕ) → 0 < n
    → reaches skus name n ≡ (is_default name || or_not (option_map (λ next. reaches skus next (n - 1)) (parent skus name)))
unfolding reaches
reaches_step skus name zero h = absurd (omega (arith, h))
reaches_step skus name (suc n) h =
    let same : n ≡ suc n - 1 = omega arith in
    ap (λ k. is_default name || or_not (option_map (λ next. reaches skus next k) (parent skus name))) same

pub reaches_none : (skus : List Sku) (name : List ℕ) (n : ℕ) → (0 < n → ⊥) → reaches skus name n ≡ is_default name
unfolding reaches
reaches_none skus name zero h = refl
reaches_none skus name (suc n) h = absurd (h (omega arith))

default_is : (name : List ℕ) → is_default name ≡ true → name ≡ codes "DEFAULT"
default_is name e = same_text name (codes "DEFAULT") (sym e)

abbrev Reached : List Sku → List ℕ → ℕ → Type 0
Reached skus name n = (steps : ℕ) × (steps ≤ n) × (after skus name steps ≡ Some (codes "DEFAULT"))

here : (skus : List Sku) (name : List ℕ) (n : ℕ) → is_default name ≡ true → Reached skus name n
unfolding after
here skus name n e = (0, omega arith, ap Some (default_is name e))

on : (skus : List Sku) (name : List ℕ) (n : ℕ) (next : Option (List ℕ)) → parent skus name ≡ next
    → ((x : List ℕ) → reaches skus x n ≡ true → Reached skus x n)
    → or_not (option_map (λ x. reaches skus x n) next) ≡ true → Reached skus name (suc n)
unfolding after
on skus name n None p h e = absurd cc
on skus name n (Some x) p h e =
    let r = h x e in
    (suc r.0, (let few : r.0 ≤ n = r.1 in omega (arith, few)), ap (option_and_then (λ next. after skus next r.0)) p ∙ r.2)

-- what is reached is so many steps away
reached : (skus : List Sku) (name : List ℕ) (n : ℕ) → reaches skus name n ≡ true → Reached skus name n
unfolding reaches
reached skus name zero e = here skus name zero e
reached skus name (suc n) e =
    (elim (is_default name) as (λ b. is_default name ≡ b → (b || or_not (option_map (λ next. reaches skus next n) (parent skus name))) ≡ true → Reached skus name (suc n)) [
      | true ↦ λ d e. here skus name (suc n) d
      | false ↦ λ d e. on skus name n (parent skus name) refl (λ x h. reached skus x n h) e
    ]) refl e

ends : (skus : List Sku) (sku : Sku) → reaches skus sku.name (length skus) ≡ true → EndsAtDefault skus sku.name
ends skus sku e = let r = reached skus sku.name (length skus) e in record { steps = r.0; few = r.1; there = r.2 }

each_ends : (skus all : List Sku) → list_all (λ sku. reaches skus sku.name (length skus)) all ≡ true → All (λ sku. EndsAtDefault skus sku.name) all
each_ends skus [] e = All-nil (λ sku. EndsAtDefault skus sku.name)
each_ends skus (sku ∷ all) e =
    let parts = both_hold (reaches skus sku.name (length skus)) (list_all (λ sku. reaches skus sku.name (length skus)) all) e in
    All-cons (λ sku. EndsAtDefault skus sku.name) sku all (ends skus sku parts.0) (each_ends skus all parts.1)

pub all_end : (skus : List Sku) → skus_end skus ≡ true → SkusEnd skus
unfolding skus_end
all_end skus e = each_ends skus skus e
