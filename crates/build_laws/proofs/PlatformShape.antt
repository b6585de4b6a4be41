-- The SKUs of a world's platform lead to DEFAULT.
use Rattle.std.specs.Prelude.{◌||◌, codes}
use Rattle.std.specs.List.{list_all}
use Rattle.std.specs.Option.{option_map, option_and_then}
use Rattle.std.proofs.Common.{◌≡◌, ℕ, zero, suc, ◌≤◌, Bool, true, false, List, [], ◌∷◌, length, Option, Some, None, Result, Ok, Err, All, refl, sym, ap, ◌∙◌, subst, arith}
use Rattle.std.proofs.lemmas.List.Elements.{All-head, All-tail}
use Rattle.build_base.specs.First.{and_then}
use Rattle.build_base.specs.World.{World, field}
use Rattle.build_base.specs.declared.fault.Fault.{Fault}
use Rattle.build_base.specs.declared.lines.Lines.{Lines}
use Rattle.doc_types.specs.SkuWalks.{parent, after, EndsAtDefault}
use Rattle.doc_types.specs.declared.platform.PlatformDoc.{PlatformDoc}
use Rattle.doc_types.specs.declared.platform.Sku.{Sku}
use Rattle.dsc_platform.specs.Platform.{platform_of}
use Rattle.dsc_platform.proofs.ShapeOfLines.{skus_end as lines_end}
use Rattle.library_steps.specs.Skus.{or_not, is_default, reaches, skus_end}
use Rattle.build_rules.specs.Values.{job_macros, lines_in, platform_value}
use Rattle.build_laws.proofs.FlashShape.{both_true}

at_default : (skus : List Sku) (name : List ℕ) → after skus name 0 ≡ Some (codes "DEFAULT") → is_default name ≡ true
unfolding after
at_default skus name e = let same : name ≡ codes "DEFAULT" = cc in subst (λ (n : List ℕ). is_default n ≡ true) (sym same) refl

or_true : (b : Bool) → (b || true) ≡ true
or_true true = refl
or_true false = refl

-- a walk that ends within some steps is found
walk_found : (skus : List Sku) (name : List ℕ) (n steps : ℕ) → steps ≤ n → after skus name steps ≡ Some (codes "DEFAULT") → reaches skus name n ≡ true
unfolding reaches after
walk_found skus name zero zero few e = at_default skus name e
walk_found skus name zero (suc steps) few e = absurd (omega (arith, few))
walk_found skus name (suc n) zero few e = ap (λ b. b || or_not (option_map (λ next. reaches skus next n) (parent skus name))) (at_default skus name e)
walk_found skus name (suc n) (suc steps) few e =
    let less : steps ≤ n = omega (arith, few) in
    (elim (parent skus name) as (λ (next : Option (List ℕ)). option_and_then (λ next. after skus next steps) next ≡ Some (codes "DEFAULT")
    → (is_default name || or_not (option_map (λ next. reaches skus next n) next)) ≡ true) [
      | None ↦ λ e. absurd cc
      | Some next ↦ λ e. ap (λ b. is_default name || b) (walk_found skus next n steps less e) ∙ or_true (is_default name)
    ]) e

each_found : (skus some : List Sku) → All (λ sku. EndsAtDefault skus sku.name) some → list_all (λ sku. reaches skus sku.name (length skus)) some ≡ true
each_found skus [] all = refl
each_found skus (sku ∷ some) all =
    let here = All-head (λ (sku : Sku). EndsAtDefault skus sku.name) sku some all in
    both_true (reaches skus sku.name (length skus)) (list_all (λ sku. reaches skus sku.name (length skus)) some)
    (walk_found skus sku.name (length skus) here.steps here.few here.there)
    (each_found skus some (All-tail (λ (sku : Sku). EndsAtDefault skus sku.name) sku some all))

lines_found : (lines : Result Lines Fault) (platform : PlatformDoc) → and_then lines platform_of ≡ Ok platform → skus_end platform.skus ≡ true
unfolding skus_end
lines_found (Ok lines) platform e = each_found platform.skus platform.skus (lines_end lines platform e)
lines_found (Err fault) platform e = absurd cc

pub skus_found : (w : World) (platform : PlatformDoc) → platform_value w ≡ Ok platform → skus_end platform.skus ≡ true
skus_found w platform e = lines_found (lines_in w (field w 0) [] (job_macros w)) platform e
