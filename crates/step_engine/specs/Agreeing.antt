-- Answers to parts: whose outcomes they are, and which of them are the same. The rule is this
-- project's own.
use Rattle.std.specs.Prelude.{◌≡◌, ◌↔◌, List, Contains, Option, Some, Bool, IsTrue}
use Rattle.step_engine.specs.Build.{IsEntryOf}
use Rattle.step_engine.specs.declared.talk.Ask.TheVariants as ask
use Rattle.step_engine.specs.declared.talk.Answer.{Answer}
use Rattle.step_engine.specs.declared.talk.Answer.TheVariants as answer
use Rattle.step_engine.specs.declared.talk.Outcome.{Outcome}
use Rattle.step_engine.specs.declared.talk.Pair.{Pair}
use Rattle.step_engine.specs.declared.talk.Batch.{Batch}
use Rattle.step_engine.specs.declared.talk.Entry.{Entry}

-- the answer is the outcome of an entry of the part
abbrev pub IsPartAnswer : {K O : Type 0} → List (Entry K O) → K → Answer O → Type 0
IsPartAnswer {K} {O} fresh part a = (r : Outcome O) × IsEntryOf part r fresh × (a ≡ answer.Part r)

-- each answer to a part is the outcome of an entry of it
abbrev pub HaveParts : {K O : Type 0} → List (Entry K O) → List (Pair K O) → Type 0
HaveParts {K} {O} fresh pairs = (part : K) (p : Pair K O) → Contains pairs p → p.ask ≡ ask.Part part
    → IsPartAnswer fresh part p.answer

-- and so in each batch of a talk
abbrev pub HasTalkParts : {K O : Type 0} → List (Entry K O) → List (Batch K O) → Type 0
HasTalkParts {K} {O} fresh talk = (b : Batch K O) → Contains talk b → HaveParts fresh b.pairs

-- the talk of some entry has the pair
abbrev pub HasPair : {K O : Type 0} → List (Entry K O) → Pair K O → Type 0
HasPair {K} {O} entries p = (e : Entry K O) × (b : Batch K O) × Contains entries e
    × Contains e.talk.batches b × Contains b.pairs p

-- all answers to one part are the same
abbrev pub Agree : {K O : Type 0} → List (Entry K O) → Type 0
Agree {K} {O} entries = (part : K) (p q : Pair K O) → HasPair entries p → HasPair entries q
    → p.ask ≡ ask.Part part → q.ask ≡ ask.Part part → p.answer ≡ q.answer

-- whether the answer is the outcome of an entry of the part
abbrev pub IsCompared : {K O : Type 0} → List (Entry K O) → K → Bool → Answer O → Type 0
IsCompared {K} {O} fresh part same a = (r : Outcome O) × IsEntryOf part r fresh
    × (IsTrue same ↔ (answer.Part r ≡ a))

-- what is noted of a part holds of all old answers to it
abbrev pub AreCompared : {K O : Type 0} → List (Entry K O) → List (Entry K O) → (K → Option Bool)
    → Type 0
AreCompared {K} {O} old fresh compared = (part : K) (same : Bool) → compared part ≡ Some same
    → (r : Outcome O) × IsEntryOf part r fresh
    × ((p : Pair K O) → HasPair old p → p.ask ≡ ask.Part part
    → IsTrue same ↔ (answer.Part r ≡ p.answer))
