-- The parts that a key under way wants.
use Rattle.std.specs.Prelude.{◌≡◌, ◌⊎◌, List, Contains, Some, slice_get}
use Rattle.step_engine.specs.Meaning.{asks_of}
use Rattle.step_engine.specs.declared.talk.Ask.{Ask}
use Rattle.step_engine.specs.declared.talk.Ask.TheVariants as ask
use Rattle.step_engine.specs.declared.talk.Batch.{Batch}
use Rattle.step_engine.specs.declared.items.Item.{Item}
use Rattle.step_engine.specs.declared.items.Item.TheVariants as item

-- the key was wanted, or is the part of the ask
abbrev pub AddsParts : {K : Type 0} → Ask K → List K → K → Type 0
AddsParts a old k = Contains old k ⊎ (a ≡ ask.Part k)

-- the key was wanted, or is the part of one of the asks
abbrev pub ArePartsOf : {K : Type 0} → List (Ask K) → List K → K → Type 0
ArePartsOf asks old k = Contains old k ⊎ Contains asks (ask.Part k)

-- the item asks for the part
abbrev pub IsAskedBy : {K O : Type 0} → K → Item K O → Type 0
IsAskedBy k (item.Run r) = ⊥
IsAskedBy k (item.Asked a) = Contains a.asks (ask.Part k)
IsAskedBy {K} {O} k (item.Check c) = (b : Batch K O)
    × (slice_get c.entry.talk.batches c.batch ≡ Some b) × Contains (asks_of b.pairs) (ask.Part k)

-- the key was wanted, or the item asks for it
abbrev pub WantsItem : {K O : Type 0} → Item K O → List K → K → Type 0
WantsItem a old k = Contains old k ⊎ IsAskedBy k a
