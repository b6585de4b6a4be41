-- What a table of answers tells of a talk, in this project's own form of steps.
use Rattle.std.specs.Prelude.{◌≡◌, List, ◌++◌, Option, Bool, Result, map}
use Rattle.std.specs.Borrow.{Bor}
use Rattle.std.specs.Global.{Vec}
use Rattle.std.specs.Option.{option_copied, option_map, is_some}
use Rattle.std.specs.declared.cmp.Ordering.{Ordering}
use Rattle.step_engine.specs.declared.talk.Ask.{Ask}
use Rattle.step_engine.specs.declared.talk.Answer.{Answer}
use Rattle.step_engine.specs.declared.talk.Batch.{Batch}
use Rattle.step_engine.specs.declared.talk.Pair.{Pair}
use Rattle.build_stages.specs.Asks.{same_ask, Tables, found_at, or_from}
use Rattle.build_stages.specs.Stages.{Known, Staged, Stages, Fits, Halt, either, known_pairs, known_in, answered, missing, gather, advance}

-- a table of answers
abbrev pub Table : Type 0 → Type 0 → Type 0
Table K O = Tables K (Bor (Answer O))

abbrev pub known_at : {K O : Type 0} → (K → K → Ordering) → Table K O → Known K O
known_at cmp t a = option_copied (found_at cmp t a)

abbrev pub shown : {A : Type 0} → List (Bor A) → List A
shown xs = map (λ x. x.now) xs

-- these, and then those
abbrev pub with_first : {A : Type 0} → List A → Option (List A) → Option (List A)
with_first xs rest = option_map (λ ys. xs ++ ys) rest

-- known, or wanted already
abbrev pub seen_in : {K O V : Type 0} → Known K O → (Ask K → Option V) → Ask K → Bool
seen_in known wanted a = either (is_some (wanted a)) (is_some (known a))

-- The same words of a table of answers.

-- the asks of the pairs have their answers where they had none, and all else is as before
abbrev pub NotesAll : {K O : Type 0} → (K → K → Ordering) → List (Pair K O) → Table K O → Table K O
    → Type 0
NotesAll cmp pairs old new =
    known_at cmp new ≡ or_from (known_at cmp old) (known_pairs (same_ask cmp) pairs)

-- the table is that of a talk
abbrev pub IsOf : {K O : Type 0} → (K → K → Ordering) → List (Batch K O) → Table K O → Type 0
IsOf cmp talk t = known_at cmp t ≡ known_in (same_ask cmp) talk

-- the answers to all asks, where each is known
abbrev pub AreOf : {K O : Type 0} → (K → K → Ordering) → Table K O → List (Ask K)
    → Option (Vec (Bor (Answer O))) → Type 0
AreOf cmp t asks found = option_map (λ v. shown v.items) found ≡ answered (known_at cmp t) asks

abbrev pub missing_at : {K O : Type 0} → (K → K → Ordering) → Table K O → List (Ask K)
    → List (Ask K)
missing_at cmp t asks = missing (same_ask cmp) (known_at cmp t) asks

abbrev pub gathered_at : {K O : Type 0} → (K → K → Ordering) → Fits K O → Table K O → List (Ask K)
    → Result (List (Pair K O)) (Halt K)
gathered_at cmp fits t asks = gather (same_ask cmp) fits (known_at cmp t) asks

-- what stages give by a table
abbrev pub advance_at : {K O A : Type 0} → (K → K → Ordering) → Fits K O → Table K O → Stages K O A
    → Result A (Halt K)
advance_at cmp fits t s = advance (same_ask cmp) fits (known_at cmp t) s

-- what a key gives by a table
abbrev pub outcome_at : {K O : Type 0} → (K → K → Ordering) → Staged K O → Table K O → K
    → Result O (Halt K)
outcome_at cmp c t k = advance_at cmp c.fits t (c.stages k)
