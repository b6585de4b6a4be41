-- What contracts see of a sink in memory.
use Rattle.std.specs.Prelude.{◌≡◌, ◌↔◌, ℕ, ◌+◌, ◌≤◌, ◌<◌, ◌==◌, List, [], ◌∷◌, ◌++◌, length, take, Option, None, Some, IsSome, is_some, sum_by, Result, Ok, Err, if◌then◌else◌}
use Rattle.build_base.specs.declared.outside.Target.{Target}
use Rattle.build_base.specs.declared.outside.Target.TheVariants.{Start, More, Out, Err as ToErr}
use Rattle.build_base.specs.Outside.{Emission, Grew}
use Rattle.build_base.specs.declared.memory_sink.SinkFail.{SinkFail}

-- the emissions kept, what is told, the count of faults, the room that is left, the calls that are
-- to fail, and how many there were
pub record SinkState : Type 0 where
  pub kept : List Emission
  pub written : Option (List Emission)
  pub faults : ℕ
  pub calls_left : ℕ
  pub bytes_left : ℕ
  pub fails : List SinkFail
  pub calls : ℕ

abbrev pub path_of : Target → List ℕ
path_of (Start path) = path
path_of (More path) = path
path_of Out = []
path_of ToErr = []

-- how many bytes the call of this number writes, where it is to fail: what the first entry of the
-- number says
abbrev pub kept_at : List SinkFail → ℕ → Option ℕ
kept_at [] call = None
kept_at (fail ∷ fails) call = if fail.call == call then Some fail.kept else kept_at fails call

-- what an emission takes of the room for bytes: its path and its bytes
abbrev pub size_of : Target → List ℕ → ℕ
size_of target bytes = length (path_of target) + length bytes

-- what a call writes of its bytes: all, or so many where it is to fail
abbrev pub written_part : Option ℕ → List ℕ → List ℕ
written_part None bytes = bytes
written_part (Some kept) bytes = take kept bytes

-- There is room for one more emission.
pub record HasRoom (s : SinkState) (target : Target) (bytes : List ℕ) : Type 0 where
  pub call : 0 < s.calls_left
  pub size : size_of target bytes ≤ s.bytes_left

-- An emission is told exactly where all before it are told and it has room. It is kept where it is
-- told, and takes one call and its own bytes. One that isn't told takes nothing, and isn't kept.
pub record TakesRoom (old new : SinkState) (target : Target) (bytes : List ℕ) : Type 0 where
  pub told : IsSome new.written ↔ (IsSome old.written × HasRoom old target bytes)
  pub kept : new.kept ≡ old.kept ++ (if is_some new.written then (target, bytes) ∷ [] else [])
  pub calls_taken : old.calls_left ≡ new.calls_left + (if is_some new.written then 1 else 0)
  pub bytes_taken : old.bytes_left ≡ new.bytes_left
      + (if is_some new.written then size_of target bytes else 0)

-- Emissions one after the other, each of which begins as the one before it left the sink.
abbrev pub AllTakeRoom : SinkState → List Emission → SinkState → Type 0
AllTakeRoom old [] new = new ≡ old
AllTakeRoom old (e ∷ es) new = (next : SinkState) × TakesRoom old next e.0 e.1
    × AllTakeRoom next es new

-- There is room for so many emissions, and for all their paths and bytes together.
pub record HasRoomForAll (s : SinkState) (emissions : List Emission) : Type 0 where
  pub calls : length emissions ≤ s.calls_left
  pub sizes : sum_by (λ e. size_of e.0 e.1) emissions ≤ s.bytes_left

-- A call writes all bytes, or fails where it is to fail and writes so many.
abbrev pub Writes : {E : Type 0} → Option ℕ → Option (List Emission) → Option (List Emission)
    → Target → List ℕ → Result (Unit {0}) E → Type 0
Writes None old new target bytes (Ok x) = Grew old new ((target, bytes) ∷ [])
Writes None old new target bytes (Err e) = ⊥
Writes (Some kept) old new target bytes (Ok x) = ⊥
Writes (Some kept) old new target bytes (Err e) = Grew old new ((target, take kept bytes) ∷ [])
