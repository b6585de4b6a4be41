-- What calls of a sink and a keeper did that didn't fail.
use Rattle.std.proofs.Common.{◌≡◌, ℕ, List, [], ◌∷◌, false, Option, None, Some, Result, Ok, Err, subst}
use Rattle.std.specs.Result.{is_err}
use Rattle.build_base.specs.Keeping.{KeeperCause, Stores}
use Rattle.build_base.specs.Outside.{Cause, Emission, Emits, Grew}
use Rattle.build_base.specs.Spelling.{Output, Spelled, Writes}
use Rattle.build_base.specs.declared.outside.KeeperFailed.{KeeperFailed}
use Rattle.build_base.specs.declared.outside.Target.{Target}
use Rattle.edk_build.specs.Kept.{IsKept}

pub wrote_all : {E : Type 0} (a b : Option (List Emission)) (outputs : List Output) (r : Result (Unit {0}) E) → false ≡ is_err r → Writes a b outputs r → Spelled a b outputs
wrote_all a b outputs (Ok x) e w = w
wrote_all a b outputs (Err x) e w = absurd cc

pub emitted_all : {E : Type 0} (a b : Option (List Emission)) (target : Target) (bytes : List ℕ) (r : Result (Unit {0}) E) → false ≡ is_err r → Emits a b target bytes r
    → Grew a b ((target, bytes) ∷ [])
emitted_all a b target bytes (Ok x) e w = w
emitted_all a b target bytes (Err x) e w = absurd cc

pub no_rise : {T E : Type 0} (before now : ℕ) (r : Result T E) → false ≡ is_err r → Cause before now r → now ≡ before
no_rise before now (Ok x) e c = c
no_rise before now (Err x) e c = absurd cc

pub keeper_no_rise : {T : Type 0} (before now : ℕ) (r : Result T KeeperFailed) → false ≡ is_err r → KeeperCause before now r → now ≡ before
keeper_no_rise before now (Ok x) e c = c
keeper_no_rise before now (Err x) e c = absurd cc

stored_by : (old new : Option (Option (List ℕ))) (bytes : List ℕ) (x : Unit {0}) → Stores old new bytes (Ok x) → Stores old new bytes (Ok tt)
stored_by old None bytes x s = tt
stored_by old (Some new) bytes x s = s

pub stored_all : (old new : Option (Option (List ℕ))) (bytes stored : List ℕ) (r : Result (Unit {0}) KeeperFailed) → false ≡ is_err r → bytes ≡ stored → Stores old new bytes r
    → Stores old new stored (Ok tt)
stored_all old new bytes stored (Ok x) e same s = subst (λ z. Stores old new z (Ok tt)) same (stored_by old new bytes x s)
stored_all old new bytes stored (Err x) e same s = absurd cc

-- what is kept already is as after a store of it
pub kept_again : (told : Option (Option (List ℕ))) (text : List ℕ) → IsKept told text → Stores told told text (Ok tt)
kept_again None text h = tt
kept_again (Some kept) text h = h
