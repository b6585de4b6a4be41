-- What a call that may want memory answers.
use Rattle.std.specs.Prelude.{◌≡◌, ℕ, Result, Ok, Err, Option, Some, None, List}
use Rattle.build_base.specs.declared.fault.Fault.{Fault}
use Rattle.build_base.specs.declared.refusal.Refusal.{Refusal}
use Rattle.build_base.specs.declared.refusal.Refusal.TheVariants.{Bad, WantOfMemory}

-- the refusal is that of this outcome, unless memory was wanting
abbrev pub Refused : {T : Type 0} → Refusal → Result T Fault → Type 0
Refused (Bad fault) outcome = outcome ≡ Err fault
Refused WantOfMemory outcome = Unit {0}

-- The answer is this outcome, unless memory was wanting.
abbrev pub Answers : {T : Type 0} → Result T Refusal → Result T Fault → Type 0
Answers (Ok x) outcome = outcome ≡ Ok x
Answers (Err e) outcome = Refused e outcome

-- What the answer stands for is this outcome, unless memory was wanting.
abbrev pub AnswersAs : {T U : Type 0} → (T → U) → Result T Refusal → Result U Fault → Type 0
AnswersAs view (Ok x) outcome = outcome ≡ Ok (view x)
AnswersAs view (Err e) outcome = Refused e outcome

-- the refusal is this fault, unless memory was wanting
abbrev pub Finds : Refusal → Option Fault → Type 0
Finds (Bad found) fault = fault ≡ Some found
Finds WantOfMemory fault = Unit {0}

-- The check finds this fault, unless memory was wanting.
abbrev pub Checks : {T : Type 0} → Result T Refusal → Option Fault → Type 0
Checks (Ok x) fault = fault ≡ None
Checks (Err e) fault = Finds e fault

-- What grew is this outcome, unless memory was wanting.
abbrev pub Grows : {E : Type 0} → Result E Refusal → List ℕ → Result (List ℕ) Fault → Type 0
Grows (Ok x) new outcome = outcome ≡ Ok new
Grows (Err e) new outcome = Refused e outcome
