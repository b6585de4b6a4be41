-- The faults of a line, of which that of the least code counts.
use Rattle.std.specs.Prelude.{nat_lt, if◌then◌else◌, List, [], ◌∷◌, Option, Some, None, Result, Ok, Err}
use Rattle.build_base.specs.declared.fault.Fault.{Fault}

-- of two faults that of the lesser code, of one code the first
abbrev pub lesser : Option Fault → Option Fault → Option Fault
lesser None second = second
lesser (Some fault) None = Some fault
lesser (Some fault) (Some other) = if nat_lt other.code fault.code then Some other else Some fault

-- of all faults that of the least code, of one code the first
abbrev pub least_of : List (Option Fault) → Option Fault
least_of [] = None
least_of (fault ∷ faults) = lesser fault (least_of faults)

-- the fault of an outcome
abbrev pub fault_in : {T : Type 0} → Result T Fault → Option Fault
fault_in (Ok value) = None
fault_in (Err fault) = Some fault

-- what an outcome gives
abbrev pub given : {T : Type 0} → Result T Fault → List T
given (Ok value) = value ∷ []
given (Err fault) = []
