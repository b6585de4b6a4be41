-- Numbers of answers to parts, of which each part has one.
use Rattle.std.specs.Prelude.{◌≡◌, ℕ, List, Some, Contains}
use Rattle.step_engine.specs.declared.talk.Ask.TheVariants as ask
use Rattle.step_pack.specs.declared.key.Key.{Key}
use Rattle.step_cache.specs.Known.{number_at}
use Rattle.step_cache.specs.declared.numbered.Asked.{Asked}
use Rattle.step_cache.specs.declared.numbered.Numbered.{Numbered}

-- a table of numbers
abbrev pub Table : Type 0
Table = List (Key × ℕ)

-- what is noted stays
abbrev pub Keeps : Table → Table → Type 0
Keeps old new = (part : Key) (n : ℕ) → number_at old part ≡ Some n → number_at new part ≡ Some n

-- the number of a part is noted, and what was noted stays
pub record Places (part : Key) (n : ℕ) (old new : Table) : Type 0 where
  pub here : number_at new part ≡ Some n
  pub keeps : Keeps old new

-- the number of an ask of a part is noted
abbrev pub IsNoted : Table → Asked → Type 0
IsNoted known asked = (part : Key) → asked.ask ≡ ask.Part part →
    number_at known part ≡ Some asked.number

-- the numbers of all of these asks are noted, and what was noted stays
pub record Notes (Has : Asked → Type 0) (old new : Table) : Type 0 where
  pub noted : (asked : Asked) → Has asked → IsNoted new asked
  pub keeps : Keeps old new

-- the asks of an ask, of a batch, of a talk and of entries
abbrev pub IsAsk : Asked → Asked → Type 0
IsAsk asked other = asked ≡ other

abbrev pub HasIn : {B : Type 0} → (B → Asked → Type 0) → List B → Asked → Type 0
HasIn {B} Has items asked = (item : B) × Contains items item × Has item asked

abbrev pub HasAsk : List Asked → Asked → Type 0
HasAsk = HasIn IsAsk

abbrev pub HasAskOf : List (List Asked) → Asked → Type 0
HasAskOf = HasIn HasAsk

abbrev pub HasAskBy : Numbered → Asked → Type 0
HasAskBy entry = HasAskOf entry.batches

abbrev pub HasAskIn : List Numbered → Asked → Type 0
HasAskIn = HasIn HasAskBy

-- all answers of the entries to one part have one number
abbrev pub AreOne : List Numbered → Type 0
AreOne entries = (part : Key) (a b : Asked) → HasAskIn entries a → HasAskIn entries b →
    a.ask ≡ ask.Part part → b.ask ≡ ask.Part part → a.number ≡ b.number
