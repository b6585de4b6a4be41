-- What a turn leaves, and what a list of keys under way comes to.
use Rattle.std.specs.Prelude.{◌≡◌, ◌++◌, List, [], ◌∷◌, Option, Some, None, All}
use Rattle.step_engine.specs.Build.{Setting}
use Rattle.step_engine.specs.Engine.{State, state, Grows}
use Rattle.step_engine.specs.Turns.{IsTurn}
use Rattle.step_engine.specs.Loops.{IsRunning}
use Rattle.step_engine.specs.declared.talk.Talk.{Talk}
use Rattle.step_engine.specs.declared.talk.Entry.{Entry}
use Rattle.step_engine.specs.declared.rules.Turn.{Turn}
use Rattle.step_engine.specs.declared.rules.Turn.TheVariants as turn
use Rattle.step_engine.specs.Table.{Known, IsMadeAt}
use Rattle.step_engine.specs.Rounds.{AreNoted, IsGoing, IsWanted}
use Rattle.step_engine.specs.Items.{IsReady, AreRuns, AreItems, AreRunsWanted, AreItemsWanted}
use Rattle.step_engine.specs.declared.places.Place.TheVariants.{Running}
use Rattle.step_engine.specs.declared.items.Item.{Item}
use Rattle.step_engine.specs.declared.items.Item.TheVariants as item
use Rattle.step_engine.specs.declared.items.Run.{Run}
use Rattle.step_engine.specs.declared.items.Turned.{Turned}

abbrev pub TakesUp : {K O : Type 0} → K → Talk K O → Turn K O → Known K → Known K → List (Entry K O)
    → List (Entry K O) → Option (Item K O) → Type 0
TakesUp k talk (turn.Ask asks permit) t u fresh fresh' r =
    (r ≡ Some (item.Asked (record { key = k; talk = talk; permit = permit; asks = asks })))
    × (fresh' ≡ fresh) × (u ≡ t)
TakesUp k talk (turn.Done result) t u fresh fresh' r = (r ≡ None)
    × IsMadeAt Running (record { key = k; talk = talk; result = result }) t u fresh fresh'

-- what is left of a key is put to the runs or to the rest
abbrev pub SortsIn : {K O : Type 0} → Option (Item K O) → List (Run K O) → List (Run K O)
    → List (Item K O) → List (Item K O) → Type 0
SortsIn None runs runs' rest rest' = (runs' ≡ runs) × (rest' ≡ rest)
SortsIn (Some (item.Run r)) runs runs' rest rest' = (runs' ≡ runs ++ r ∷ []) × (rest' ≡ rest)
SortsIn (Some (item.Asked a)) runs runs' rest rest' = (runs' ≡ runs)
    × (rest' ≡ rest ++ item.Asked a ∷ [])
SortsIn (Some (item.Check c)) runs runs' rest rest' = (runs' ≡ runs)
    × (rest' ≡ rest ++ item.Check c ∷ [])

-- acts for keys that are needed where Before holds: what they leave under way
pub record IsList {K O : Type 0} (s : Setting K O) (y z : State K O) (t u : Known K)
    (Before : K → Type 0) (runs : List (Run K O)) (rest : List (Item K O)) : Type 0 where
  pub ready : IsReady s z u
  pub grows : Grows y.fresh z.fresh
  pub going : (top : K) (x : State K O) → IsGoing s top x y t → Before top → IsGoing s top x z u
  pub runs_are : AreRuns s z runs
  pub rest_are : AreItems s z rest
  pub runs_wanted : (top : K) → Before top → AreRunsWanted s top runs
  pub rest_wanted : (top : K) → Before top → AreItemsWanted s top rest

-- after every answer
abbrev pub ListNotes : {K O : Type 0} → Setting K O → State K O → State K O → Known K → (K → Type 0)
    → Type 0
ListNotes {K} {O} s y z t Before = (top : K) (x : State K O) → IsGoing s top x y t → Before top
    → AreNoted s top x z

-- what is left of a key is put to the rest
abbrev pub PutsIn : {K O : Type 0} → Option (Item K O) → List (Item K O) → List (Item K O) → Type 0
PutsIn None rest rest' = rest' ≡ rest
PutsIn (Some a) rest rest' = rest' ≡ rest ++ a ∷ []

-- turns that are to be taken up: each is of a run
pub record IsTaking {K O : Type 0} (s : Setting K O) (y z : State K O) (t u : Known K)
    (Before : K → Type 0) (done : List (Turned K O)) (rest : List (Item K O)) : Type 0 where
  pub list : IsList s y z t u Before [] rest
  pub running : All (λ (d : Turned K O). IsRunning s d.key z d.talk.batches) done
  pub turn : All (λ (d : Turned K O). IsTurn s.means d.key d.talk.batches d.turn) done
  pub wanted : (top : K) → Before top → All (λ (d : Turned K O). IsWanted s top d.key) done

-- they were taken up
abbrev pub Takes : {K O : Type 0} → List (Entry K O) → Known K → List (Turned K O) → List (Item K O)
    → List (Entry K O) → Known K → List (Item K O) → Type 0
Takes {K} {O} fresh u done rest fresh' v rest' =
    (s : Setting K O) (y z : State K O) (t : Known K) (items : List (Item K O)) → z.fresh ≡ fresh
    → IsTaking s y z t u (λ top. AreItemsWanted s top items) done rest
    → IsList s y (state fresh' z.learned z.ran z.reads) t v (λ top. AreItemsWanted s top items) []
    rest'
