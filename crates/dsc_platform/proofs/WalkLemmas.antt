-- Steps of a walk by parents.
use Rattle.std.proofs.Common.{◌≡◌, ℕ, zero, suc, ◌-◌, ◌<◌, ◌≤◌, ◌==◌, ◌||◌, false, List, Option, Some, None, refl, ap, arith}
use Rattle.dsc_platform.specs.SkuWalks.{next_of, comes_by}

-- a walk that has ended
pub comes_none : (parents : List (Option ℕ)) (target steps : ℕ) → comes_by parents target steps None ≡ false
unfolding comes_by
comes_none parents target zero = refl
comes_none parents target (suc steps) = refl

-- one step
pub comes_step : (parents : List (Option ℕ)) (target steps here : ℕ) → 0 < steps
    → comes_by parents target steps (Some here) ≡ ((here == target) || comes_by parents target (steps - 1) (next_of parents here))
unfolding comes_by
comes_step parents target zero here h = absurd (omega (arith, h))
comes_step parents target (suc steps) here h =
    let less : steps ≡ suc steps - 1 = omega arith in
    ap (λ n. (here == target) || comes_by parents target n (next_of parents here)) less

-- no step is left
pub comes_end : (parents : List (Option ℕ)) (target steps : ℕ) (place : Option ℕ) → steps ≤ 0 → comes_by parents target steps place ≡ false
unfolding comes_by
comes_end parents target zero place h = refl
comes_end parents target (suc steps) place h = absurd (omega (arith, h))
