-- What a line comes to under several heads.
use Rattle.std.specs.Prelude.{◌≡◌, List, [], ◌∷◌, map, Option, Some, None, Result, Ok, Err}
use Rattle.std.specs.List.{flat_map}
use Rattle.build_base.specs.First.{unless}
use Rattle.build_base.specs.Answer.{Finds}
use Rattle.build_base.specs.declared.fault.Fault.{Fault}
use Rattle.build_base.specs.declared.refusal.Refusal.{Refusal}
use Rattle.doc_reading.specs.Least.{fault_in, least_of}
use Rattle.doc_reading.specs.declared.gathered.LineResult.{LineResult}

-- what an outcome gives
abbrev pub given_in : {T : Type 0} → Result (Option T) Fault → List T
given_in (Ok (Some value)) = value ∷ []
given_in (Ok None) = []
given_in (Err fault) = []

-- the least fault of some outcomes
abbrev pub least_in : {T : Type 0} → List (Result (Option T) Fault) → Option Fault
least_in outcomes = least_of (map fault_in outcomes)

-- what all outcomes give, or their least fault
abbrev pub gathered : {T : Type 0} → List (Result (Option T) Fault) → Result (List T) Fault
gathered outcomes = unless (least_in outcomes) (flat_map given_in outcomes)

-- the outcome of a line: the least code whose condition holds, or what it gives
abbrev pub unless_faulty : {T : Type 0} → List (Option Fault) → T → Result T Fault
unless_faulty conditions row = unless (least_of conditions) row

abbrev pub Found : Result (Unit {0}) Refusal → Option Fault → Type 0 → Type 0
Found (Ok x) least gives = (least ≡ None) × gives
Found (Err refusal) least gives = Finds refusal least

-- what was gathered of some outcomes
abbrev pub Gathers : {T : Type 0} → LineResult T → List (Result (Option T) Fault) → Type 0
Gathers g outcomes = Found g.found (least_in outcomes) (g.rows.items ≡ flat_map given_in outcomes)
