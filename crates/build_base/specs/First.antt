-- The first of some things that are there.
use Rattle.std.specs.Prelude.{Bool, Option, Some, None, List, [], ◌∷◌, ◌++◌, Result, Ok, Err, if◌then◌else◌}

-- the first of two
abbrev pub or_else : {T : Type 0} → Option T → Option T → Option T
or_else None second = second
or_else (Some x) second = Some x

-- the first that is there
abbrev pub first_of : {T : Type 0} → List (Option T) → Option T
first_of [] = None
first_of (x ∷ xs) = or_else x (first_of xs)

-- what the first condition that holds names
abbrev pub first_holding : {T : Type 0} → List (Bool × T) → Option T
first_holding [] = None
first_holding (row ∷ rows) = if row.0 then Some row.1 else first_holding rows

-- a value, unless there is a fault
abbrev pub unless : {T F : Type 0} → Option F → T → Result T F
unless None value = Ok value
unless (Some fault) value = Err fault

-- what comes of a value, unless there was a fault
abbrev pub and_then : {A B F : Type 0} → Result A F → (A → Result B F) → Result B F
and_then (Ok x) f = f x
and_then (Err e) f = Err e

-- an outcome, unless there is a fault before it
abbrev pub or_fault : {T F : Type 0} → Option F → Result T F → Result T F
or_fault None outcome = outcome
or_fault (Some fault) outcome = Err fault

-- an outcome's list, with items before it
abbrev pub with_front : {B F : Type 0} → List B → Result (List B) F → Result (List B) F
with_front front (Ok xs) = Ok (front ++ xs)
with_front front (Err f) = Err f

-- what all outcomes give, or the first fault
abbrev pub all_ok : {B F : Type 0} → List (Result B F) → Result (List B) F
all_ok [] = Ok []
all_ok (outcome ∷ outcomes) = and_then outcome (λ x. with_front (x ∷ []) (all_ok outcomes))
