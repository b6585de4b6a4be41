-- What holds of each key under way.
use Rattle.std.specs.Prelude.{◌≡◌, ℕ, ◌++◌, List, [], ◌∷◌, Option, Some, All, Contains, IfSome}
use Rattle.build_base.specs.World.{World}
use Rattle.step_engine.specs.Meaning.{Meaning}
use Rattle.step_engine.specs.Turns.{IsTurn}
use Rattle.step_engine.specs.Build.{Setting, IsHere}
use Rattle.step_engine.specs.Entries.{IsValid}
use Rattle.step_engine.specs.Needed.{IsStale}
use Rattle.step_engine.specs.Agreeing.{HasTalkParts}
use Rattle.step_engine.specs.Engine.{State, AreKept, Moves, Grows}
use Rattle.step_engine.specs.Loops.{IsRunning, IsChecking}
use Rattle.step_engine.specs.declared.talk.Ask.{Ask}
use Rattle.step_engine.specs.declared.talk.Batch.{Batch}
use Rattle.step_engine.specs.declared.talk.Entry.{Entry}
use Rattle.step_engine.specs.Table.{Known, Finds, IsPlaced}
use Rattle.step_engine.specs.declared.places.Place.TheVariants.{Checking, Running}
use Rattle.step_engine.specs.Rounds.{IsWanted, AreNoted, IsGoing}
use Rattle.step_engine.specs.declared.items.Item.{Item}
use Rattle.step_engine.specs.declared.items.Item.TheVariants as item
use Rattle.step_engine.specs.declared.items.Run.{Run}
use Rattle.step_engine.specs.declared.items.Turned.{Turned}
use Rattle.step_engine.specs.declared.items.Checked.{Checked}
use Rattle.step_engine.specs.declared.items.Checked.TheVariants as checked

-- files were read for the key, and not all its parts are done
pub record IsStill {K O : Type 0} (s : Setting K O) (k : K) (x y : State K O) : Type 0 where
  pub moves : Moves s k x y
  pub kept : AreKept s y

-- the step has asked its next asks
pub record IsAsked {K O : Type 0} (s : Setting K O) (y : State K O) (k : K)
    (talk : List (Batch K O)) (asks : List (Ask K)) : Type 0 where
  pub running : IsRunning s k y talk
  pub next : s.means.next k talk ≡ Some asks

-- the first batches of the only old entry of its key are right
pub record IsCheck {K O : Type 0} (s : Setting K O) (y : State K O) (e : Entry K O) (i : ℕ)
    : Type 0 where
  pub old : Contains s.old e
  pub only : (d : Entry K O) → Contains s.old d → d.key ≡ e.key → d ≡ e
  pub checking : IsChecking s e.talk.batches i y

abbrev pub IsItem : {K O : Type 0} → Setting K O → State K O → Item K O → Type 0
IsItem s y (item.Run r) = IsRunning s r.key y r.talk.batches
IsItem s y (item.Asked a) = IsAsked s y a.key a.talk.batches a.asks
IsItem s y (item.Check c) = IsCheck s y c.entry c.batch

abbrev pub item_key : {K O : Type 0} → Item K O → K
item_key (item.Run r) = r.key
item_key (item.Asked a) = a.key
item_key (item.Check c) = c.entry.key

-- what came of an asked step: it waits, or is to make its next turn
pub record IsResumed {K O : Type 0} (s : Setting K O) (k : K) (x y : State K O) (a : Item K O)
    : Type 0 where
  pub still : IsStill s k x y
  pub item : IsItem s y a
  pub key : item_key a ≡ k

-- an old entry that is valid
pub record IsGood {K O : Type 0} (s : Setting K O) (y : State K O) (e : Entry K O) : Type 0 where
  pub old : Contains s.old e
  pub valid : (w : World) → IsHere s w → IsValid s.means w e
  pub parts : HasTalkParts y.fresh e.talk.batches

-- what came of a check: the entry is valid, or it isn't, or it is to be checked on
abbrev pub IsOutcome : {K O : Type 0} → Setting K O → K → State K O → Checked K O → Type 0
IsOutcome s k y (checked.Right e) = IsGood s y e × (e.key ≡ k)
IsOutcome s k y (checked.Wrong j) = ((w : World) → IsHere s w → IsStale s.means w s.old k) × (j ≡ k)
IsOutcome s k y (checked.Next c) = IsCheck s y c.entry c.batch × (c.entry.key ≡ k)

pub record IsCheckedOn {K O : Type 0} (s : Setting K O) (k : K) (x y : State K O) (r : Checked K O)
    : Type 0 where
  pub still : IsStill s k x y
  pub outcome : IsOutcome s k y r

abbrev pub AreItems : {K O : Type 0} → Setting K O → State K O → List (Item K O) → Type 0
AreItems {K} {O} s y items = All (λ (a : Item K O). IsItem s y a) items

abbrev pub AreRuns : {K O : Type 0} → Setting K O → State K O → List (Run K O) → Type 0
AreRuns {K} {O} s y runs = All (λ (r : Run K O). IsRunning s r.key y r.talk.batches) runs

abbrev pub AreItemsWanted : {K O : Type 0} → Setting K O → K → List (Item K O) → Type 0
AreItemsWanted {K} {O} s top items = All (λ (a : Item K O). IsWanted s top (item_key a)) items

abbrev pub AreRunsWanted : {K O : Type 0} → Setting K O → K → List (Run K O) → Type 0
AreRunsWanted {K} {O} s top runs = All (λ (r : Run K O). IsWanted s top r.key) runs

abbrev pub AreWanted : {K O : Type 0} → Setting K O → K → List K → Type 0
AreWanted s top keys = All (λ k. IsWanted s top k) keys

-- the key and the talk of a run, after its turn
pub record IsTurned {K O : Type 0} (m : Meaning K O) (r : Run K O) (t : Turned K O) : Type 0 where
  pub key : t.key ≡ r.key
  pub talk : t.talk ≡ r.talk
  pub turn : IsTurn m r.key r.talk.batches t.turn

-- the step of a key begins
abbrev pub IsNewRun : {K O : Type 0} → K → Item K O → Type 0
IsNewRun k (item.Run r) = (r.key ≡ k) × (r.talk.batches ≡ [])
IsNewRun k (item.Asked a) = ⊥
IsNewRun k (item.Check c) = ⊥

-- a key that was checked is granted, and runs
pub record IsRerun {K O : Type 0} (k : K) (book book' : List K) (t u : Known K) (a : Item K O)
    : Type 0 where
  pub was : t k ≡ Some Checking
  pub book_is : book' ≡ book ++ k ∷ []
  pub placed : IsPlaced k Running t u
  pub run : IsNewRun k a

-- what holds between calls for any tree and whatever was needed
pub record IsReady {K O : Type 0} (s : Setting K O) (y : State K O) (t : Known K) : Type 0 where
  pub kept : AreKept s y
  pub finds : Finds t y.fresh

-- an act for a key: what holds between calls goes on to hold
pub record IsAct {K O : Type 0} (s : Setting K O) (k : K) (y z : State K O) (t u : Known K)
    : Type 0 where
  pub ready : IsReady s z u
  pub grows : Grows y.fresh z.fresh
  pub going : (top : K) (x : State K O) → IsGoing s top x y t → IsWanted s top k
      → IsGoing s top x z u

-- and what is left under way of the key
pub record IsAdvanced {K O : Type 0} (s : Setting K O) (k : K) (y z : State K O) (t u : Known K)
    (r : Option (Item K O)) : Type 0 where
  pub act : IsAct s k y z t u
  pub item : IfSome r (λ (a : Item K O). IsItem s z a × (item_key a ≡ k))

-- after every answer: what the book and the reads gained
abbrev pub Notes : {K O : Type 0} → Setting K O → K → State K O → State K O → Known K → Type 0
Notes {K} {O} s k y z t = (top : K) (x : State K O) → IsGoing s top x y t → IsWanted s top k
    → AreNoted s top x z
