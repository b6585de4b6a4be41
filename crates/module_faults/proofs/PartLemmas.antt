-- Types of values, and what holds of options and outcomes.
use Rattle.std.proofs.Common.{◌≡◌, Option, Some, None, Result, Ok}
use Rattle.std.specs.Option.{IfSome, option_map}
use Rattle.build_base.specs.declared.fault.Fault.{Fault}
use Rattle.build_base.specs.First.{or_fault}

-- the type of a function's argument
abbrev pub Domain : {A B : Type 0} → (A → B) → Type 0
Domain {A} {B} f = A

-- the type of a value
abbrev pub TypeOf : {A : Type 0} → A → Type 0
TypeOf {A} x = A

-- a property of what an option has
abbrev pub Holds : {X : Type 0} → (X → Type 0) → Option X → Type 0
Holds P o = IfSome o P

-- of what is made of it
pub mapped_holds : {X Y : Type 0} (P : Y → Type 0) (f : X → Y) (found : Option X) → ((x : X) → P (f x)) → Holds P (option_map f found)
mapped_holds P f None n = record {}
mapped_holds P f (Some x) n = n x

-- what an outcome has, where no fault stands before it
pub after_fault : {T : Type 0} (fault : Option Fault) (made : Result T Fault) (x : T) → or_fault fault made ≡ Ok x → made ≡ Ok x
after_fault None made x e = e
after_fault (Some fault) made x e = absurd cc
