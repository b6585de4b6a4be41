-- A pool in its table.
use Rattle.std.proofs.Common.{◌≡◌, ◌++◌, ℕ, Bool, true, false, not, cond, List, [], ◌∷◌, refl, sym, subst}
use Rattle.std.specs.List.{list_any}
use Rattle.indexmap.specs.IndexSet.{insert_key}
use Rattle.step_cache.specs.Checking.{Adds}
use Rattle.step_cache.specs.Pools.{text_is, has_text, with_text}

pub add_text : (pool old new : List (List ℕ)) (text : List ℕ) (added : Bool) → old ≡ pool → new ≡ insert_key text_is old text
    → added ≡ not (list_any (text_is text) old) → Adds pool text new added
unfolding with_text has_text
add_text pool old new text added was is adds =
    subst (λ (p : List (List ℕ)). Adds p text new added) was (subst (Adds old text new) (sym adds) (step (list_any (text_is text) old) refl is))
  where
    step : (b : Bool) → list_any (text_is text) old ≡ b → new ≡ cond b old (old ++ text ∷ []) → Adds old text new (not b)
    step true h p = h
    step false h p = (h, p)
