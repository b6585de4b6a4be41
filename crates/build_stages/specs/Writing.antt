-- Words to write the stages of a key, in this project's own form of steps.
use Rattle.std.specs.Prelude.{ℕ, ◌==◌, nat_eq, Bool, true, false, List, [], ◌∷◌, Option, Some, None, Result, Ok, Err, if◌then◌else◌}
use Rattle.std.specs.Cmp.Lexicographic.{pointwise}
use Rattle.std.specs.BTreeMap.{is_at}
use Rattle.std.specs.declared.cmp.Ordering.{Ordering}
use Rattle.build_base.specs.declared.fault.Fault.{Fault}
use Rattle.step_engine.specs.declared.talk.Answer.{Answer}
use Rattle.step_engine.specs.declared.talk.Ask.{Ask}
use Rattle.step_engine.specs.declared.talk.Ask.TheVariants as ask
use Rattle.step_engine.specs.declared.talk.Pair.{Pair}
use Rattle.step_engine.specs.declared.talk.Answer.TheVariants as answer
use Rattle.step_engine.specs.declared.talk.Outcome.TheVariants.{Good}
use Rattle.build_stages.specs.Stages.{Stages, end, impossible_answer}

-- goes on with what is there, or ends with the fault
abbrev pub attempt : {K O A B : Type 0} → Result A Fault → (A → Stages K O B) → Stages K O B
attempt (Ok x) next = next x
attempt (Err fault) next = end (Err fault)

-- goes on where this holds; in a world it does
abbrev pub when : {K O A : Type 0} → Bool → Stages K O A → Stages K O A
when true s = s
when false s = end (Err impossible_answer)

abbrev pub part_of : {O : Type 0} → Option (Answer O) → Result O Fault
part_of (Some (answer.Part (Good out))) = Ok out
part_of _ = Err impossible_answer

abbrev pub field_of : {O : Type 0} → Option (Answer O) → Result (List ℕ) Fault
field_of (Some (answer.Field text)) = Ok text
field_of _ = Err impossible_answer

abbrev pub file_of : {O : Type 0} → Option (Answer O) → Result (Answer O) Fault
file_of (Some (answer.Bytes bytes)) = Ok (answer.Bytes bytes)
file_of (Some answer.Absent) = Ok answer.Absent
file_of (Some answer.TooLong) = Ok answer.TooLong
file_of _ = Err impossible_answer

-- which asks are those of a file, of a field and of a part

abbrev pub is_file : {K : Type 0} → List ℕ → Ask K → Bool
is_file path (ask.File q) = pointwise nat_eq path q
is_file path _ = false

abbrev pub is_field : {K : Type 0} → ℕ → Ask K → Bool
is_field i (ask.Field j) = i == j
is_field i _ = false

abbrev pub is_part : {K : Type 0} → (K → K → Ordering) → K → Ask K → Bool
is_part cmp k (ask.Part l) = is_at (cmp k) l
is_part cmp k _ = false

-- the first answer to such an ask
abbrev pub answer_where : {K O : Type 0} → (Ask K → Bool) → List (Pair K O) → Option (Answer O)
answer_where is [] = None
answer_where is (p ∷ given) = if is p.ask then Some p.answer else answer_where is given

-- what is told of a part, of a field and of a file

abbrev pub given_part : {K O : Type 0} → (K → K → Ordering) → List (Pair K O) → K → Result O Fault
given_part cmp given k = part_of (answer_where (is_part cmp k) given)

abbrev pub given_field : {K O : Type 0} → List (Pair K O) → ℕ → Result (List ℕ) Fault
given_field given i = field_of (answer_where (is_field i) given)

abbrev pub given_file : {K O : Type 0} → List (Pair K O) → List ℕ → Result (Answer O) Fault
given_file given path = file_of (answer_where (is_file path) given)
