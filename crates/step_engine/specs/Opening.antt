-- Keys that are met for the first time.
use Rattle.std.specs.Prelude.{◌≡◌, ◌++◌, List, [], ◌∷◌, None, Contains}
use Rattle.step_engine.specs.Caches.{HasKey}
use Rattle.step_engine.specs.Build.{Setting}
use Rattle.step_engine.specs.Engine.{State, state}
use Rattle.step_engine.specs.declared.talk.Entry.{Entry}
use Rattle.step_engine.specs.Table.{Known, IsPlaced}
use Rattle.step_engine.specs.Rounds.{AreNoted, IsGoing}
use Rattle.step_engine.specs.Items.{IsReady, AreWanted}
use Rattle.step_engine.specs.Taking.{IsList}
use Rattle.step_engine.specs.declared.places.Place.TheVariants.{Checking, Running}
use Rattle.step_engine.specs.declared.items.Item.{Item}
use Rattle.step_engine.specs.declared.items.Item.TheVariants as item

-- the only old entry of the key is checked from its first batch on, or there is none, and the step
-- runs
abbrev pub IsOpened : {K O : Type 0} → K → List (Entry K O) → List K → List K → Known K → Known K
    → Item K O → Type 0
IsOpened k old book book' t u (item.Run r) = (t k ≡ None) × (HasKey old k → ⊥)
    × (book' ≡ book ++ k ∷ []) × IsPlaced k Running t u × (r.key ≡ k) × (r.talk.batches ≡ [])
IsOpened {K} {O} k old book book' t u (item.Check c) = (t k ≡ None) × (book' ≡ book)
    × IsPlaced k Checking t u × (c.entry.key ≡ k) × Contains old c.entry
    × ((d : Entry K O) → Contains old d → d.key ≡ k → d ≡ c.entry) × (c.batch ≡ 0)
IsOpened k old book book' t u (item.Asked a) = ⊥

-- the keys were opened
abbrev pub Opens : {K O : Type 0} → List K → List (Entry K O) → List K → Known K → List K → Known K
    → List (Item K O) → Type 0
Opens {K} {O} keys old book t book' u items =
    (s : Setting K O) (y : State K O) → s.old ≡ old → y.ran ≡ book → IsReady s y t
    → IsList s y (state y.fresh y.learned book' y.reads) t u (λ top. AreWanted s top keys) [] items

-- after every answer
abbrev pub OpensNoted : {K O : Type 0} → List K → List (Entry K O) → List K → Known K → List K
    → Type 0
OpensNoted {K} {O} keys old book t book' = (s : Setting K O) (y : State K O) → s.old ≡ old
    → y.ran ≡ book → IsReady s y t → (top : K) (x : State K O) → IsGoing s top x y t
    → AreWanted s top keys → AreNoted s top x (state y.fresh y.learned book' y.reads)
