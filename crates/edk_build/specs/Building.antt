-- What a build does.
use Rattle.std.specs.Prelude.{◌≡◌, ◌↔◌, ◌⊎◌, ◌-◌, ℕ, List, [], length, Contains, Option}
use Rattle.build_base.specs.Outside.{Emission}
use Rattle.build_base.specs.Spelling.{Spelled, SpelledCut}
use Rattle.build_base.specs.World.{World}
use Rattle.build_stages.specs.Stages.{meaning_of}
use Rattle.step_engine.specs.Meaning.{Meaning}
use Rattle.step_engine.specs.Build.{IsEntryOf}
use Rattle.step_engine.specs.Caches.{AreInOrder, HasKey}
use Rattle.step_engine.specs.Needed.{IsStep, IsNeededCount, IsLeft, IsFull, AreDistinct}
use Rattle.step_engine.specs.declared.talk.Entry.{Entry}
use Rattle.step_engine.specs.declared.talk.Outcome.{Outcome}
use Rattle.step_engine.specs.declared.talk.Outcome.TheVariants.{Good, Bad}
use Rattle.step_pack.specs.Keys.{key_cmp}
use Rattle.step_pack.specs.declared.key.Key.{Key}
use Rattle.step_pack.specs.declared.key.Key.TheVariants as key
use Rattle.step_pack.specs.declared.out.Out.{Out}
use Rattle.step_pack.specs.declared.out.Output.{Output}
use Rattle.build_rules.specs.Rules.{edk, value_in}
use Rattle.edk_build.specs.Outcome.{outcome, outcome_bytes, outputs_in}
use Rattle.edk_build.specs.Emitting.{emitted, status_of}
use Rattle.edk_build.specs.declared.label.Label.{Label}
use Rattle.edk_build.specs.declared.status.Status.{Status}
use Rattle.edk_build.specs.declared.status.Status.TheVariants.{Done, FileFault}

abbrev pub means : Meaning Key Out
means = meaning_of key_cmp edk

-- how many steps a build has to run
pub record IsStepCount (w : World) (cache : List (Entry Key Out)) (n : ℕ) : Type 0 where
  pub keys : List Key
  pub distinct : AreDistinct keys
  pub are_steps : (k : Key) → Contains keys k ↔ IsStep means w cache key.All k
  pub number : length keys ≡ n

-- how many steps ran, and how many keys are needed
pub record IsCounted (w : World) (cache : List (Entry Key Out)) (steps needed : ℕ) : Type 0 where
  pub ran : IsStepCount w cache steps
  pub all : IsNeededCount means w key.All needed

-- what a build that came to its end has done, where this cache was left before it
pub record IsBuilt (w : World) (cache : List (Entry Key Out)) (label : Label) (status : Status)
    (old new : Option (List Emission)) : Type 0 where
  pub steps : ℕ
  pub needed : ℕ
  pub counted : IsCounted w cache steps needed
  pub ends : status ≡ status_of (outcome w)
  pub written : Spelled old new (emitted label (outcome w) steps (needed - steps))

-- what a build has done whose last emission failed
pub record IsCutShort (w : World) (cache : List (Entry Key Out)) (label : Label)
    (old new : Option (List Emission)) : Type 0 where
  pub steps : ℕ
  pub needed : ℕ
  pub counted : IsCounted w cache steps needed
  pub written : SpelledCut old new (emitted label (outcome w) steps (needed - steps))

-- each key of these entries has the entry's result as its value
abbrev pub Agrees : (Key → Outcome Out) → List (Entry Key Out) → Type 0
Agrees value entries = (e : Entry Key Out) → Contains entries e → value e.key ≡ e.result

-- the step of an output has an entry, or else no bytes
abbrev pub HasSource : (Key → Outcome Out) → List (Entry Key Out) → Output → Type 0
HasSource value entries output =
    HasKey entries output.from ⊎ (outcome_bytes (value output.from) output.part ≡ [])

-- these entries tell what each output has
pub record Tells (value : Key → Outcome Out) (entries : List (Entry Key Out))
    (outputs : List Output) : Type 0 where
  pub agrees : Agrees value entries
  pub sources : (o : Output) → Contains outputs o → HasSource value entries o

abbrev pub AgreesOnGood : Outcome Out → (Key → Outcome Out) → List (Entry Key Out) → Type 0
AgreesOnGood (Good given) value entries = Tells value entries (outputs_in given)
AgreesOnGood (Bad fault) value entries = Unit {0}

abbrev pub result_status : Outcome Out → Status
result_status (Good given) = Done
result_status (Bad fault) = FileFault

-- the status is that of the top step's entry
abbrev pub IsOwn : Status → List (Entry Key Out) → Type 0
IsOwn status cache = (r : Outcome Out) × IsEntryOf key.All r cache × (status ≡ result_status r)

-- what a build leaves: no other cache has its entries
pub record Leaves (w : World) (old new : List (Entry Key Out)) : Type 0 where
  pub left : IsLeft means w old key.All new
  pub order : AreInOrder key_cmp new
  pub only : (other : List (Entry Key Out)) → AreInOrder key_cmp other
      → IsLeft means w old key.All other → other ≡ new
  pub full : IsFull means w key.All new

-- what the engine brought in a world: the top step's value, the cache that is left, and how many
-- steps ran and were reused
pub record IsBrought (w : World) (old : List (Entry Key Out)) (result : Outcome Out)
    (left : List (Entry Key Out)) (steps reused : ℕ) : Type 0 where
  pub needed : ℕ
  pub value : result ≡ value_in w key.All
  pub agrees : AgreesOnGood result (value_in w) left
  pub counted : IsCounted w old steps needed
  pub reuses : reused ≡ needed - steps
  pub leaves : Leaves w old left
