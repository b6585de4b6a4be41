-- What holds between the calls of a build, in whatever order its keys are settled.
use Rattle.std.specs.Prelude.{◌≡◌, ℕ, ◌++◌, ◌⊎◌, List, Contains}
use Rattle.build_base.specs.World.{World}
use Rattle.step_engine.specs.Needed.{IsNeeded, IsStale, AreDistinct}
use Rattle.step_engine.specs.Build.{Setting, IsHere, IsEntryOf, Ran, HasRead, added_to}
use Rattle.step_engine.specs.declared.talk.Outcome.{Outcome}
use Rattle.step_engine.specs.Engine.{State, AreKept, IsKnown, IsPathAsked, IsFrom}
use Rattle.step_engine.specs.declared.talk.Entry.{Entry}
use Rattle.step_engine.specs.Table.{Known, IsTable}
use Rattle.std.specs.Prelude.{[], ◌∷◌}

-- the key is needed
abbrev pub IsWanted : {K O : Type 0} → Setting K O → K → K → Type 0
IsWanted s top k = (w : World) → IsHere s w → IsNeeded s.means w top k

-- the book grew by distinct steps, the reads by distinct paths that needed keys ask
pub record AreNoted {K O : Type 0} (s : Setting K O) (top : K) (x y : State K O) : Type 0 where
  pub ran : Ran s top x.ran y.ran
  pub read : HasRead s top x.reads y.reads

-- each entry is of one of the keys, or an old one
abbrev pub AreFrom : {K O : Type 0} → List (Entry K O) → List K → List (Entry K O) → Type 0
AreFrom {K} {O} old added fresh = (e : Entry K O) → Contains fresh e → Contains added e.key
    ⊎ Contains old e

-- from the start of the build on, these keys ran and these paths were read; each entry made is of a
-- needed key that ran or had a valid entry
pub record IsGoing {K O : Type 0} (s : Setting K O) (top : K) (x y : State K O) (t : Known K)
    : Type 0 where
  pub added : List K
  pub is : y.ran ≡ x.ran ++ added
  pub distinct : AreDistinct added
  pub step : (w : World) → IsHere s w → (k : K) → Contains added k → IsNeeded s.means w top k
      × IsStale s.means w s.old k
  pub paths : List (List ℕ)
  pub reads : y.reads ≡ added_to x.reads paths
  pub paths_distinct : AreDistinct paths
  pub paths_known : (p : List ℕ) → Contains paths p → IsKnown y.learned.files p
  pub asked : (w : World) → IsHere s w → (p : List ℕ) → Contains paths p
      → IsPathAsked s.means w (top ∷ []) p
  pub needed : (w : World) → IsHere s w → (e : Entry K O) → Contains y.fresh e
      → IsNeeded s.means w top e.key
  pub from : (w : World) → IsHere s w → (e : Entry K O) → Contains y.fresh e
      → IsFrom s w added e.key
  pub sources : AreFrom s.old added y.fresh
  pub table : IsTable t added y.fresh

-- what a build has come to when its key has its outcome
pub record IsEnd {K O : Type 0} (s : Setting K O) (top : K) (z : State K O) (added : List K)
    (r : Outcome O) : Type 0 where
  pub kept : AreKept s z
  pub entry : IsEntryOf top r z.fresh
  pub needed : (w : World) → IsHere s w → (e : Entry K O) → Contains z.fresh e
      → IsNeeded s.means w top e.key
  pub from : (w : World) → IsHere s w → (e : Entry K O) → Contains z.fresh e
      → IsFrom s w added e.key

-- one entry at most has a key
abbrev pub IsOneEach : {K O : Type 0} → List (Entry K O) → Type 0
IsOneEach {K} {O} fresh = (d e : Entry K O) → Contains fresh d → Contains fresh e → d.key ≡ e.key
    → d ≡ e

-- the same entries
pub record AreSame {K O : Type 0} (xs ys : List (Entry K O)) : Type 0 where
  pub into : (e : Entry K O) → Contains xs e → Contains ys e
  pub from : (e : Entry K O) → Contains ys e → Contains xs e
