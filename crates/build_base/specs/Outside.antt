-- What the objects of the outside mean, and what their calls do to it.
use Rattle.std.specs.Prelude.{◌≡◌, ◌+◌, ◌-◌, ◌^◌, ◌≤◌, ◌++◌, ℕ, nat_le, List, length, min, Option, Some, None, Result, Ok, Err, [], ◌∷◌, if◌then◌else◌}
use Rattle.build_base.specs.declared.outside.Got.{Got}
use Rattle.build_base.specs.declared.outside.Got.TheVariants.{File, Absent, TooLong}
use Rattle.build_base.specs.declared.outside.Target.{Target}
use Rattle.build_base.specs.declared.outside.TreeFailed.{TreeFailed}
use Rattle.build_base.specs.declared.outside.TreeFailed.TheVariants.{Failed, WantOfMemory}

-- the files of a workspace: what stands at a path
abbrev pub Files : Type 0
Files = List ℕ → Option (List ℕ)

-- what is got of a file, with a limit
abbrev pub got_of : ℕ → Option (List ℕ) → Got
got_of limit None = Absent
got_of limit (Some bytes) = if nat_le (length bytes) limit then File bytes else TooLong

-- a file that was got has no more bytes than the limit
abbrev pub IsWithin : ℕ → Got → Type 0
IsWithin limit (File bytes) = length bytes ≤ limit
IsWithin limit Absent = Unit {0}
IsWithin limit TooLong = Unit {0}

-- the number of the next call, the greatest of 64 bits standing for all that follow
abbrev pub next_call : ℕ → ℕ
next_call calls = min (calls + 1) (2 ^ 64 - 1)

-- A count of faults rose, or stands at the last value of its type.
pub record HasFailed (before now : ℕ) : Type 0 where
  pub later : before ≤ now
  pub rose : min (before + 1) (2 ^ 64 - 1) ≤ now

-- what a call of a tree does to its count
abbrev pub TreeCause : {T : Type 0} → ℕ → ℕ → Result T TreeFailed → Type 0
TreeCause before now (Ok x) = now ≡ before
TreeCause before now (Err Failed) = HasFailed before now
TreeCause before now (Err WantOfMemory) = now ≡ before

-- what a call whose one refusal is a fault does to a count
abbrev pub Cause : {T E : Type 0} → ℕ → ℕ → Result T E → Type 0
Cause before now (Ok x) = now ≡ before
Cause before now (Err e) = HasFailed before now

-- one emission: where, and which bytes
abbrev pub Emission : Type 0
Emission = Target × List ℕ

-- What is told at the end was told before, and grew by these.
abbrev pub Grew : Option (List Emission) → Option (List Emission) → List Emission → Type 0
Grew old None more = Unit {0}
Grew old (Some now) more = (before : List Emission) × (old ≡ Some before) × (now ≡ before ++ more)

-- it grew by one emission that a failure cut short
abbrev pub GrewCut : Option (List Emission) → Option (List Emission) → Target → List ℕ → Type 0
GrewCut old new target bytes = (kept : List ℕ) × (rest : List ℕ) × (bytes ≡ kept ++ rest)
    × Grew old new ((target, kept) ∷ [])

-- what an emission does to what is written
abbrev pub Emits : {E : Type 0} → Option (List Emission) → Option (List Emission) → Target → List ℕ
    → Result (Unit {0}) E → Type 0
Emits old new target bytes (Ok x) = Grew old new ((target, bytes) ∷ [])
Emits old new target bytes (Err e) = GrewCut old new target bytes
