-- Outcomes, and refusals that are those of an outcome.
use Rattle.std.proofs.Common.{◌≡◌, Option, Some, Result, Ok, Err}
use Rattle.build_base.specs.declared.fault.Fault.{Fault}
use Rattle.build_base.specs.declared.refusal.Refusal.{Refusal}
use Rattle.build_base.specs.declared.refusal.Refusal.TheVariants.{Bad, WantOfMemory}
use Rattle.build_base.specs.Answer.{Finds, Refused}

-- outcomes with their types
abbrev pub as_ok : {T F : Type 0} → T → Result T F
as_ok x = Ok x

abbrev pub as_err : {T F : Type 0} → F → Result T F
as_err f = Err f

pub ok_is : {T F : Type 0} (x y : T) → as_ok {T = T} {F = F} x ≡ as_ok {T = T} {F = F} y → x ≡ y
ok_is x y e = cc

pub err_is_not : {T F : Type 0} (f : F) (y : T) → as_err {T = T} {F = F} f ≡ as_ok {T = T} {F = F} y → ⊥
err_is_not f y e = absurd (cc)

-- the refusal of a part of the work is that of the whole
pub refused_too : {T U : Type 0} (e : Refusal) (r : Result T Fault) (s : Result U Fault) → ((f : Fault) → r ≡ Err f → s ≡ Err f) → Refused e r → Refused e s
refused_too (Bad f) r s g h = g f h
refused_too WantOfMemory r s g h = tt

-- so is what a check finds
pub refused_by : {T : Type 0} (e : Refusal) (o : Option Fault) (r : Result T Fault) → ((f : Fault) → o ≡ Some f → r ≡ Err f) → Finds e o → Refused e r
refused_by (Bad f) o r g h = g f h
refused_by WantOfMemory o r g h = tt
