-- The encoding of asks, answers and outcomes: the number of the variant, in the order of
-- declaration, and its fields. The rule is this project's own.
use Rattle.std.specs.Prelude.{◌≡◌, ◌⊎◌, ℕ, List, refl}
use Rattle.std.proofs.Common.{inl, inr}
use Rattle.build_base.specs.declared.fault.Fault.{Fault}
use Rattle.step_engine.specs.declared.talk.Answer.{Answer}
use Rattle.step_engine.specs.declared.talk.Ask.{Ask}
use Rattle.step_pack.specs.declared.key.Key.{Key}
use Rattle.step_pack.specs.declared.out.Out.{Out}
use Rattle.step_engine.specs.declared.talk.Outcome.{Outcome}
use Rattle.step_engine.specs.declared.talk.Ask.TheVariants as ask
use Rattle.step_engine.specs.declared.talk.Outcome.TheVariants as outcome
use Rattle.step_engine.specs.declared.talk.Answer.TheVariants as answer
use Rattle.packed_values.specs.Encoding.{Encoding}
use Rattle.packed_values.specs.Plain.{byte_encoding, text_encoding, path_encoding}
use Rattle.packed_values.specs.Base.{fault_encoding}
use Rattle.packed_values.specs.Parts.{encoding_by}
use Rattle.packed_values.specs.Arms.{arm, last_arm, tagged_encoding, unit_encoding}
use Rattle.packed_outcomes.specs.Key.{key_encoding}
use Rattle.packed_outcomes.specs.Out.{out_encoding}

abbrev pub AskParts : Type 0
AskParts = List ℕ ⊎ (ℕ ⊎ Key)

abbrev pub ask_parts : Ask Key → AskParts
ask_parts (ask.File path) = inl path
ask_parts (ask.Field number) = inr (inl number)
ask_parts (ask.Part part) = inr (inr part)

abbrev pub ask_of : AskParts → Ask Key
ask_of (inl path) = ask.File path
ask_of (inr (inl number)) = ask.Field number
ask_of (inr (inr part)) = ask.Part part

pub ask_back : (x : Ask Key) → ask_of (ask_parts x) ≡ x
ask_back (ask.File path) = refl
ask_back (ask.Field number) = refl
ask_back (ask.Part part) = refl

unfoldable pub ask_encoding : Encoding (Ask Key)
ask_encoding = encoding_by ask_parts ask_of ask_back
    (tagged_encoding (arm path_encoding (arm byte_encoding (last_arm key_encoding))))

abbrev pub OutcomeParts : Type 0
OutcomeParts = Out ⊎ Fault

abbrev pub outcome_parts : Outcome Out → OutcomeParts
outcome_parts (outcome.Good given) = inl given
outcome_parts (outcome.Bad fault) = inr fault

abbrev pub outcome_of : OutcomeParts → Outcome Out
outcome_of (inl given) = outcome.Good given
outcome_of (inr fault) = outcome.Bad fault

pub outcome_back : (x : Outcome Out) → outcome_of (outcome_parts x) ≡ x
outcome_back (outcome.Good given) = refl
outcome_back (outcome.Bad fault) = refl

unfoldable pub outcome_encoding : Encoding (Outcome Out)
outcome_encoding = encoding_by outcome_parts outcome_of outcome_back
    (tagged_encoding (arm out_encoding (last_arm fault_encoding)))

abbrev pub AnswerParts : Type 0
AnswerParts = Unit {0} ⊎ (Unit {0} ⊎ (List ℕ ⊎ (List ℕ ⊎ Outcome Out)))

abbrev pub answer_parts : Answer Out → AnswerParts
answer_parts answer.Absent = inl tt
answer_parts answer.TooLong = inr (inl tt)
answer_parts (answer.Bytes text) = inr (inr (inl text))
answer_parts (answer.Field text) = inr (inr (inr (inl text)))
answer_parts (answer.Part given) = inr (inr (inr (inr given)))

abbrev pub answer_of : AnswerParts → Answer Out
answer_of (inl _) = answer.Absent
answer_of (inr (inl _)) = answer.TooLong
answer_of (inr (inr (inl text))) = answer.Bytes text
answer_of (inr (inr (inr (inl text)))) = answer.Field text
answer_of (inr (inr (inr (inr given)))) = answer.Part given

pub answer_back : (x : Answer Out) → answer_of (answer_parts x) ≡ x
answer_back answer.Absent = refl
answer_back answer.TooLong = refl
answer_back (answer.Bytes text) = refl
answer_back (answer.Field text) = refl
answer_back (answer.Part given) = refl

unfoldable pub answer_encoding : Encoding (Answer Out)
answer_encoding = encoding_by answer_parts answer_of answer_back
    (tagged_encoding
    (arm unit_encoding
    (arm unit_encoding (arm text_encoding (arm text_encoding (last_arm outcome_encoding))))))
