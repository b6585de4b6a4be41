-- What a step asks, stage by stage; what comes of it where some answers are known, and in a world.
-- The form is this project's own.
use Rattle.std.specs.Prelude.{ℕ, zero, suc, ◌<◌, ◌-◌, List, [], ◌∷◌, ◌++◌, Option, Some, None, Result, Ok, Err, Bool, true, false, map, All, codes, if◌then◌else◌}
use Rattle.std.specs.Option.{is_some}
use Rattle.std.specs.declared.cmp.Ordering.{Ordering}
use Rattle.build_base.specs.First.{and_then, or_else}
use Rattle.build_base.specs.World.{World, got, field}
use Rattle.build_base.specs.declared.fault.Fault.{Fault}
use Rattle.step_engine.specs.Meaning.{Meaning, answer_of}
use Rattle.step_engine.specs.declared.talk.Ask.{Ask}
use Rattle.step_engine.specs.declared.talk.Ask.TheVariants as ask
use Rattle.step_engine.specs.declared.talk.Answer.{Answer}
use Rattle.step_engine.specs.declared.talk.Answer.TheVariants as answer
use Rattle.step_engine.specs.declared.talk.Outcome.{Outcome}
use Rattle.step_engine.specs.declared.talk.Outcome.TheVariants.{Good, Bad}
use Rattle.step_engine.specs.declared.talk.Pair.{Pair}
use Rattle.step_engine.specs.declared.talk.Batch.{Batch}
use Rattle.build_stages.specs.Asks.{same_ask}

-- the end with a result or a fault, or asks and what comes after their answers: each ask with its
-- answer
pub data Stages (K O A : Type 0) : Type 0 where
  end : Result A Fault → Stages K O A
  stage : List (Ask K) → (List (Pair K O) → Stages K O A) → Stages K O A

-- each ask with the answer at its place
abbrev pub with_answers : {K O : Type 0} → List (Ask K) → List (Answer O) → List (Pair K O)
with_answers [] answers = []
with_answers (a ∷ asks) [] = []
with_answers (a ∷ asks) (x ∷ answers) =
    record { ask = a; answer = x } ∷ with_answers asks answers

-- one after the other
abbrev pub bind : {K O A B : Type 0} → Stages K O A → (A → Stages K O B) → Stages K O B
bind (end (Ok x)) f = f x
bind (end (Err fault)) f = end (Err fault)
bind (stage asks next) f = stage asks (λ given. bind (next given) f)

-- which answers are known
abbrev pub Known : Type 0 → Type 0 → Type 0
Known K O = Ask K → Option (Answer O)

-- which answers an ask can have in a world, as far as a key looks
abbrev pub Fits : Type 0 → Type 0 → Type 0
Fits K O = Ask K → Answer O → Bool

-- why a key goes no further: it wants answers, or it is at its end with a fault
pub data Halt (K : Type 0) : Type 0 where
  wants : List (Ask K) → Halt K
  fails : Fault → Halt K

-- the fault of an answer that no world gives
abbrev pub impossible_answer : Fault
impossible_answer =
    record { code = 0; place = record { path = codes "talk"; line = 0 }; detail = [] }

abbrev pub fault_in : {O : Type 0} → Answer O → Option Fault
fault_in (answer.Part (Bad fault)) = Some fault
fault_in _ = None

abbrev pub stop_of : {O : Type 0} → Bool → Answer O → Option Fault
stop_of true x = fault_in x
stop_of false x = Some impossible_answer

-- the first fault of a part among answers, in the order of the asks; an answer that doesn't fit
-- counts as one
abbrev pub first_stop : {K O : Type 0} → Fits K O → List (Ask K) → List (Answer O) → Option Fault
first_stop fits [] answers = None
first_stop fits (a ∷ asks) [] = Some impossible_answer
first_stop fits (a ∷ asks) (x ∷ answers) =
    or_else (stop_of (fits a x) x) (first_stop fits asks answers)

abbrev pub unless_stopped : {A : Type 0} → Option Fault → (Fault → A) → A → A
unless_stopped (Some fault) f x = f fault
unless_stopped None f x = x

-- what a key gives by right answers
abbrev pub run : {K O A : Type 0} → Fits K O → (Ask K → Answer O) → Stages K O A → Result A Fault
run fits answers (end r) = r
run fits answers (stage asks next) =
    unless_stopped (first_stop fits asks (map answers asks)) Err
    (run fits answers (next (with_answers asks (map answers asks))))

abbrev pub cons_both : {A : Type 0} → Option A → Option (List A) → Option (List A)
cons_both (Some x) (Some xs) = Some (x ∷ xs)
cons_both _ _ = None

-- the answers to all asks, where each is known
abbrev pub answered : {K O : Type 0} → Known K O → List (Ask K) → Option (List (Answer O))
answered known [] = Some []
answered known (a ∷ asks) = cons_both (known a) (answered known asks)

abbrev pub either : Bool → Bool → Bool
either true b = true
either false b = b

-- the asks that haven't been seen, each once
abbrev pub unseen : {K : Type 0} → (Ask K → Ask K → Bool) → (Ask K → Bool) → List (Ask K)
    → List (Ask K)
unseen same seen [] = []
unseen same seen (a ∷ asks) =
    if seen a then unseen same seen asks else a ∷ unseen same (λ b. either (same b a) (seen b)) asks

abbrev pub missing : {K O : Type 0} → (Ask K → Ask K → Bool) → Known K O → List (Ask K)
    → List (Ask K)
missing same known asks = unseen same (λ a. is_some (known a)) asks

abbrev pub judged : {A K : Type 0} → Option Fault → A → Result A (Halt K)
judged (Some fault) x = Err (fails fault)
judged None x = Ok x

abbrev pub gathered : {K O : Type 0} → Fits K O → List (Ask K) → List (Ask K)
    → Option (List (Answer O)) → Result (List (Pair K O)) (Halt K)
gathered fits asks wanted (Some answers) =
    judged (first_stop fits asks answers) (with_answers asks answers)
gathered fits asks wanted None = Err (wants wanted)

-- asks with their answers, or why there are none
abbrev pub gather : {K O : Type 0} → (Ask K → Ask K → Bool) → Fits K O → Known K O → List (Ask K)
    → Result (List (Pair K O)) (Halt K)
gather same fits known asks = gathered fits asks (missing same known asks) (answered known asks)

abbrev pub ended : {A K : Type 0} → Result A Fault → Result A (Halt K)
ended (Ok x) = Ok x
ended (Err fault) = Err (fails fault)

-- what a key gives by known answers
abbrev pub advance : {K O A : Type 0} → (Ask K → Ask K → Bool) → Fits K O → Known K O → Stages K O A
    → Result A (Halt K)
advance same fits known (end r) = ended r
advance same fits known (stage asks next) =
    and_then (gather same fits known asks) (λ given. advance same fits known (next given))

-- the answers of pairs, the first of each ask
abbrev pub known_pairs : {K O : Type 0} → (Ask K → Ask K → Bool) → List (Pair K O) → Known K O
known_pairs same [] a = None
known_pairs same (p ∷ pairs) a = if same a p.ask then Some p.answer else known_pairs same pairs a

abbrev pub all_pairs : {K O : Type 0} → List (Batch K O) → List (Pair K O)
all_pairs [] = []
all_pairs (b ∷ talk) = b.pairs ++ all_pairs talk

abbrev pub known_in : {K O : Type 0} → (Ask K → Ask K → Bool) → List (Batch K O) → Known K O
known_in same talk = known_pairs same (all_pairs talk)

-- what is known of one ask
abbrev pub known_of : {K O : Type 0} → (Ask K → Ask K → Bool) → Ask K → Answer O → Known K O
known_of same b x a = if same a b then Some x else None

-- every part that is asked is of a lower rank
abbrev pub IsLower : {K : Type 0} → (K → ℕ) → ℕ → Ask K → Type 0
IsLower rank bound (ask.Part part) = rank part < bound
IsLower rank bound _ = Unit {0}

abbrev pub AreLower : {K O A : Type 0} → (K → ℕ) → ℕ → Stages K O A → Type 0
AreLower rank bound (end r) = Unit {0}
AreLower {K} {O} {A} rank bound (stage asks next) =
    All (IsLower rank bound) asks × ((given : List (Pair K O)) → AreLower rank bound (next given))

-- so many batches are asked at most
abbrev pub IsWithin : {K O A : Type 0} → ℕ → Stages K O A → Type 0
IsWithin n (end r) = Unit {0}
IsWithin {K} {O} {A} n (stage asks next) =
    (0 < n) × ((given : List (Pair K O)) → IsWithin (n - 1) (next given))

abbrev pub left_with : {K O : Type 0} → Fits K O → ℕ → List (Ask K) → (List (Answer O) → ℕ)
    → Option (List (Answer O)) → ℕ
left_with fits n asks rest None = n
left_with fits n asks rest (Some answers) =
    unless_stopped (first_stop fits asks answers) (λ fault. 0) (rest answers)

-- how many batches may still be asked
abbrev pub left_at : {K O A : Type 0} → Fits K O → Known K O → ℕ → Stages K O A → ℕ
left_at fits known n (end r) = 0
left_at fits known n (stage asks next) =
    left_with fits n asks (λ answers. left_at fits known (n - 1) (next (with_answers asks answers)))
    (answered known asks)

-- Rules that are written as stages: what each key asks, its rank, how many batches it asks at most,
-- and which answers fit.
pub record Staged (K O : Type 0) : Type 0 where
  pub stages : K → Stages K O O
  pub rank : K → ℕ
  pub most : K → ℕ
  pub fits : Fits K O
  pub is_job : List (List ℕ) → Bool

abbrev pub oracle : {K O : Type 0} → (K → Outcome O) → World → Ask K → Answer O
oracle v w (ask.File path) = answer_of (got w path)
oracle v w (ask.Field i) = answer.Field (field w i)
oracle v w (ask.Part part) = answer.Part (v part)

abbrev pub outcome_of : {O : Type 0} → Result O Fault → Outcome O
outcome_of (Ok out) = Good out
outcome_of (Err fault) = Bad fault

-- the value of a key, where ranks fall at most n times
unfoldable pub value_by : {K O : Type 0} → Staged K O → ℕ → World → K → Outcome O
value_by c zero w k =
    outcome_of (run c.fits (oracle (λ part. Bad impossible_answer) w) (c.stages k))
value_by c (suc n) w k = outcome_of (run c.fits (oracle (value_by c n w) w) (c.stages k))

abbrev pub wanted_in : {K O : Type 0} → Result O (Halt K) → Option (List (Ask K))
wanted_in (Err (wants asks)) = Some asks
wanted_in (Err (fails fault)) = None
wanted_in (Ok r) = None

abbrev pub turned : {K O : Type 0} → (K → K → Ordering) → Staged K O → K → List (Batch K O)
    → Result O (Halt K)
turned cmp c k talk = advance (same_ask cmp) c.fits (known_in (same_ask cmp) talk) (c.stages k)

-- what such rules mean
abbrev pub meaning_of : {K O : Type 0} → (K → K → Ordering) → Staged K O → Meaning K O
meaning_of cmp c = record {
  next = λ k talk. wanted_in (turned cmp c k talk);
  value = λ k w. value_by c (c.rank k) w k;
  rank = c.rank;
  left = λ k talk. left_at c.fits (known_in (same_ask cmp) talk) (c.most k) (c.stages k);
  is_job = c.is_job;
}

-- what the stages of each key have to meet
pub record AreBounded {K O : Type 0} (c : Staged K O) : Type 0 where
  pub lower : (k : K) → AreLower c.rank (c.rank k) (c.stages k)
  pub within : (k : K) → IsWithin (c.most k) (c.stages k)
