-- A build from visit to visit.
use Rattle.std.specs.Prelude.{◌≡◌, List}
use Rattle.std.specs.declared.cmp.Ordering.{Ordering}
use Rattle.step_engine.specs.Build.{Setting, IsEntryOf}
use Rattle.step_engine.specs.Engine.{State, state}
use Rattle.step_engine.specs.declared.talk.Outcome.{Outcome}
use Rattle.step_engine.specs.declared.talk.Entry.{Entry}
use Rattle.step_engine.specs.Table.{Known}
use Rattle.step_engine.specs.Rounds.{IsGoing, AreNoted}
use Rattle.step_engine.specs.Items.{IsReady}
use Rattle.step_engine.specs.Scanning.{AreUnderWay, AreAllWanted}
use Rattle.step_engine.specs.declared.pool.Pool.{Pool}

-- the keys under way after a visit
pub record IsVisited {K O : Type 0} (cmp : K → K → Ordering) (s : Setting K O) (y z : State K O)
    (t u : Known K) (before after : Pool K O) : Type 0 where
  pub ready : IsReady s z u
  pub items : AreUnderWay cmp s z after
  pub going : (top : K) (x : State K O) → IsGoing s top x y t → AreAllWanted cmp s top before
      → IsGoing s top x z u
  pub wanted : (top : K) → AreAllWanted cmp s top before → AreAllWanted cmp s top after

-- the key has its outcome, and what holds between calls goes on to hold
pub record IsBroughtTo {K O : Type 0} (s : Setting K O) (top : K) (y z : State K O) (t u : Known K)
    (r : Outcome O) : Type 0 where
  pub ready : IsReady s z u
  pub going : (x : State K O) → IsGoing s top x y t → IsGoing s top x z u
  pub entry : IsEntryOf top r z.fresh

-- after every answer
abbrev pub TopNotes : {K O : Type 0} → Setting K O → K → State K O → State K O → Known K → Type 0
TopNotes {K} {O} s top y z t = (x : State K O) → IsGoing s top x y t → AreNoted s top x z

-- what the loop keeps
pub record IsSettling {K O : Type 0} (cmp : K → K → Ordering) (s : Setting K O) (top : K)
    (y z : State K O) (t u : Known K) (pool : Pool K O) : Type 0 where
  pub ready : IsReady s z u
  pub items : AreUnderWay cmp s z pool
  pub going : (x : State K O) → IsGoing s top x y t → IsGoing s top x z u
  pub wanted : AreAllWanted cmp s top pool

-- it begins with one key
abbrev pub Begins : {K O : Type 0} → (K → K → Ordering) → K → List (Entry K O) → List K → Known K
    → List K → Known K → Pool K O → Type 0
Begins {K} {O} cmp top old book t book' u pool =
    (s : Setting K O) (y : State K O) → s.old ≡ old → y.ran ≡ book → IsReady s y t
    → IsSettling cmp s top y (state y.fresh y.learned book' y.reads) t u pool
