-- What a store that is to fail leaves.
use Rattle.std.proofs.Common.{◌≡◌, inl, inr, refl, sym, ◌∙◌, ap, ℕ, nat_le, Bool, true, false, List, length, take, drop, Option, None, Some, Err, subst, if◌then◌else◌}
use Rattle.std.specs.Option.{option_map}
use Rattle.std.proofs.lemmas.List.{take-append-drop}
use Rattle.build_base.specs.Keeping.{Stores}
use Rattle.build_base.specs.declared.outside.KeeperFailed.TheVariants.{Failed}
use Rattle.cache_keepers.specs.Failing.{after_store, stored}
use Rattle.cache_keepers.specs.declared.memory_keeper.Left.{Left}
use Rattle.cache_keepers.specs.declared.memory_keeper.Left.TheVariants.{Old, Nothing, Prefix}

left_by : (fits : Bool) (left : Left) (old : Option (Option (List ℕ))) (bytes : List ℕ)
    → Stores old (if fits then option_map (λ before. after_store (Some left) before bytes) old else None) bytes (Err Failed)
left_by false left old bytes = tt
left_by true left None bytes = tt
left_by true Old (Some before) bytes = (before, refl, inl refl)
left_by true Nothing (Some before) bytes = (before, refl, inr (inl refl))
left_by true (Prefix count) (Some before) bytes = (before, refl, inr (inr (take count bytes, drop count bytes, sym (take-append-drop count bytes), refl)))

pub stores_left : (left : Option Left) (which : Left) (old new : Option (Option (List ℕ))) (room : ℕ) (bytes : List ℕ) → left ≡ Some which → new ≡ stored left old room bytes
    → Stores old new bytes (Err Failed)
stores_left left which old new room bytes e n =
    subst (λ z. Stores old z bytes (Err Failed)) (sym (n ∙ ap (λ l. stored l old room bytes) e)) (left_by (nat_le (length bytes) room) which old bytes)
