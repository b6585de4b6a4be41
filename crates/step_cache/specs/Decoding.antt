-- What the texts of a pool stand for, and the entries that numbers of it stand for.
use Rattle.std.specs.Prelude.{◌≡◌, ℕ, true, List, [], ◌∷◌, Option, Some, None, MatchOption, slice_get, option_map}
use Rattle.std.specs.List.{AllZip}
use Rattle.std.specs.Option.{option_flatten}
use Rattle.packed_values.specs.Encoding.{Encoding, IsEncoding}
use Rattle.packed_outcomes.specs.Talk.{answer_encoding, outcome_encoding}
use Rattle.step_engine.specs.declared.talk.Answer.{Answer}
use Rattle.step_engine.specs.declared.talk.Batch.{Batch}
use Rattle.step_engine.specs.declared.talk.Entry.{Entry}
use Rattle.step_engine.specs.declared.talk.Outcome.{Outcome}
use Rattle.step_engine.specs.declared.talk.Pair.{Pair}
use Rattle.step_pack.specs.declared.key.Key.{Key}
use Rattle.step_pack.specs.declared.out.Out.{Out}
use Rattle.step_cache.specs.Pools.{has_text}
use Rattle.step_cache.specs.declared.numbered.Asked.{Asked}
use Rattle.step_cache.specs.declared.numbered.Numbered.{Numbered}

-- the value that a text is the encoding of, where it is of one
abbrev pub IsDecoded : {A : Type 0} → Encoding A → List ℕ → Option A → Type 0
IsDecoded {A} encoding text given =
    MatchOption given ((x : A) → IsEncoding encoding x text → ⊥) (λ x. IsEncoding encoding x text)

-- what each text of a pool stands for as an answer, and as a result
pub record AreDecoded (pool : List (List ℕ)) (as_answers : List (Option (Answer Out)))
    (as_results : List (Option (Outcome Out))) : Type 0 where
  pub answers : AllZip (IsDecoded answer_encoding) pool as_answers
  pub results : AllZip (IsDecoded outcome_encoding) pool as_results

-- the pool has each of the texts
abbrev pub HasTexts : List (List ℕ) → List (List ℕ) → Type 0
HasTexts pool [] = Unit {0}
HasTexts pool (text ∷ texts) = (has_text pool text ≡ true) × HasTexts pool texts

-- the value of a number
abbrev pub value_at : {A : Type 0} → List (Option A) → ℕ → Option A
value_at rows n = option_flatten (slice_get rows n)

-- an item before others, where all are there
abbrev pub consed : {A : Type 0} → Option A → Option (List A) → Option (List A)
consed None more = None
consed (Some x) None = None
consed (Some x) (Some xs) = Some (x ∷ xs)

-- what is given for each, where it is given for all
abbrev pub all_some : {A B : Type 0} → (B → Option A) → List B → Option (List A)
all_some f [] = Some []
all_some f (y ∷ ys) = consed (f y) (all_some f ys)

-- the pairs, batches and entries of numbers
abbrev pub pair_of : Asked → Answer Out → Pair Key Out
pair_of asked given = record { ask = asked.ask; answer = given }

abbrev pub pair_at : List (Option (Answer Out)) → Asked → Option (Pair Key Out)
pair_at answers asked = option_map (pair_of asked) (value_at answers asked.number)

abbrev pub batch_of : List (Pair Key Out) → Batch Key Out
batch_of pairs = record { pairs = pairs }

abbrev pub batch_at : List (Option (Answer Out)) → List Asked → Option (Batch Key Out)
batch_at answers asked = option_map batch_of (all_some (pair_at answers) asked)

abbrev pub entry_with : Key → Option (List (Batch Key Out)) → Option (Outcome Out) →
    Option (Entry Key Out)
entry_with key None given = None
entry_with key (Some batches) None = None
entry_with key (Some batches) (Some given) =
    Some (record { key = key; talk = record { batches = batches }; result = given })

abbrev pub entry_at : List (Option (Answer Out)) → List (Option (Outcome Out)) → Numbered →
    Option (Entry Key Out)
entry_at answers results number =
    entry_with number.key
    (all_some (batch_at answers) number.batches) (value_at results number.result)
