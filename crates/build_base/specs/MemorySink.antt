-- Emissions kept in memory, in room that was made before.
use Rattle.std.specs.Prelude.{ℕ, ◌+◌, ◌≤◌, List, [], ◌∷◌, length, take, drop}
use Rattle.build_base.specs.declared.outside.Target.{Target}
use Rattle.build_base.specs.declared.outside.Target.TheVariants.{Start, More, Out, Err as ToErr}
use Rattle.build_base.specs.declared.memory_sink.Kind.{Kind}
use Rattle.build_base.specs.declared.memory_sink.Kind.TheVariants.{Start as KindStart, More as KindMore, Out as KindOut, Err as KindErr}
use Rattle.build_base.specs.declared.memory_sink.Note.{Note}
use Rattle.build_base.specs.declared.memory_sink.Seen.{Seen}
use Rattle.build_base.specs.Outside.{Emission}

abbrev pub target_of : Kind → List ℕ → Target
target_of KindStart path = Start path
target_of KindMore path = More path
target_of KindOut path = Out
target_of KindErr path = ToErr

-- the emission that a note stands for, in the bytes kept
abbrev pub seen : List ℕ → Note → Emission
seen bytes note = (
  target_of note.kind (take note.path (drop note.start bytes)),
  take note.bytes (drop (note.start + note.path) bytes),
)

-- an emission as it is shown
abbrev pub seen_emission : Seen → Emission
seen_emission shown = (target_of shown.kind shown.path.now, shown.bytes.now)

abbrev pub all_seen : List ℕ → List Note → List Emission
all_seen bytes [] = []
all_seen bytes (note ∷ notes) = seen bytes note ∷ all_seen bytes notes

-- each note stands within the bytes kept
abbrev pub IsKept : List ℕ → List Note → Type 0
IsKept bytes [] = Unit {0}
IsKept bytes (note ∷ notes) = (note.start + note.path + note.bytes ≤ length bytes)
    × IsKept bytes notes
