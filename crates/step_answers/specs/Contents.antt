-- What files and volumes hold, by the answers of a step (EDK II FDF specification, FILE statements).
use Rattle.std.specs.Prelude.{ℕ, List, Result, Ok, Err}
use Rattle.build_base.specs.declared.fault.Fault.{Fault}
use Rattle.build_base.specs.declared.fault.Place.{Place}
use Rattle.build_base.specs.FaultText.{fault_of}
use Rattle.build_base.specs.First.{and_then}
use Rattle.step_engine.specs.declared.talk.Answer.{Answer}
use Rattle.step_engine.specs.declared.talk.Answer.TheVariants as answer
use Rattle.step_engine.specs.declared.talk.Pair.{Pair}
use Rattle.build_stages.specs.Stages.{impossible_answer}
use Rattle.build_stages.specs.Writing.{given_file, given_part}
use Rattle.step_pack.specs.Keys.{key_cmp}
use Rattle.step_pack.specs.declared.key.Key.{Key}
use Rattle.step_pack.specs.declared.out.Out.{Out}
use Rattle.step_pack.specs.declared.out.Out.TheVariants as out
use Rattle.build_base.specs.FaultCodes.{FILE_ABSENT, FILE_TOO_LONG, SECTION_ABSENT}

abbrev pub whole_file : List ℕ → Place
whole_file path = record { path = path; line = 0 }

-- the fault of a file that isn't there: where it is the whole body, and where it is a section's
abbrev pub file_absent : List ℕ → Fault
file_absent path = fault_of FILE_ABSENT (whole_file path) path

abbrev pub section_absent : Place → List ℕ → Fault
section_absent at path = fault_of SECTION_ABSENT at path

-- the bytes of a file that must be there
abbrev pub required : Fault → List ℕ → Answer Out → Result (List ℕ) Fault
required absent path (answer.Bytes bytes) = Ok bytes
required absent path answer.Absent = Err absent
required absent path answer.TooLong = Err (fault_of FILE_TOO_LONG (whole_file path) path)
required absent path (answer.Field text) = Err impossible_answer
required absent path (answer.Part outcome) = Err impossible_answer

-- of a file that was asked for
abbrev pub file_content : List (Pair Key Out) → Fault → List ℕ → Result (List ℕ) Fault
file_content given absent path = and_then (given_file given path) (required absent path)

-- the image that the step of a volume gives
abbrev pub volume_given : Out → Result (List ℕ) Fault
volume_given (out.Volume image) = Ok image
volume_given _ = Err impossible_answer

abbrev pub volume_content : List (Pair Key Out) → Key → Result (List ℕ) Fault
volume_content given k = and_then (given_part key_cmp given k) volume_given
