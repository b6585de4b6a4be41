-- Faults whose codes have names.
use Rattle.std.specs.Prelude.{◌≡◌, ℕ, true, Option, Some, None, Result, Ok, Err}
use Rattle.std.specs.Option.{is_some}
use Rattle.build_base.specs.FaultNames.{fault_name}
use Rattle.build_base.specs.declared.fault.Fault.{Fault}

-- the code has a name
abbrev pub IsNameCode : ℕ → Type 0
IsNameCode code = is_some (fault_name code) ≡ true

-- so has that of the fault
abbrev pub HasName : Fault → Type 0
HasName fault = IsNameCode fault.code

-- and that of a fault, where there is one
abbrev pub IsNamed : Option Fault → Type 0
IsNamed None = Unit {0}
IsNamed (Some fault) = HasName fault

-- and that of an outcome's fault
abbrev pub FailsByName : {T : Type 0} → Result T Fault → Type 0
FailsByName (Ok value) = Unit {0}
FailsByName (Err fault) = HasName fault
