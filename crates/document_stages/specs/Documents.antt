-- The lines of a document, include by include (EDK II DSC specification, !include statements).
use Rattle.std.specs.Prelude.{ℕ, zero, suc, ◌+◌, ◌*◌, List, [], ◌∷◌, Result, Ok, Err, Bool, true, false, length, nat_le}
use Rattle.build_base.specs.First.{and_then}
use Rattle.build_base.specs.World.{file_limit}
use Rattle.build_base.specs.declared.fault.Fault.{Fault}
use Rattle.build_base.specs.declared.lines.Lines.{Lines}
use Rattle.build_base.specs.declared.lines.Macro.{Macro}
use Rattle.build_base.specs.declared.outside.Got.{Got}
use Rattle.build_base.specs.declared.outside.Got.TheVariants.{File, Absent, TooLong}
use Rattle.macro_conditions.specs.declared.known.Known.{Known}
use Rattle.macro_conditions.specs.Sources.{answer}
use Rattle.macro_conditions.specs.Expansion.{Stop, bad, need, expansion}
use Rattle.macro_conditions.specs.Counting.{most, with_answer}
use Rattle.step_engine.specs.declared.talk.Ask.{Ask}
use Rattle.step_engine.specs.declared.talk.Ask.TheVariants as ask
use Rattle.step_engine.specs.declared.talk.Answer.{Answer}
use Rattle.step_engine.specs.declared.talk.Answer.TheVariants as answers
use Rattle.build_stages.specs.Stages.{Stages, end, stage, impossible_answer, Fits, Halt, gather, ended, Known as Answers}
use Rattle.build_stages.specs.Writing.{attempt, given_file}

abbrev pub if_small : Bool → List ℕ → Result Got Fault
if_small true bytes = Ok (File bytes)
if_small false bytes = Err impossible_answer

-- what was got of a file; no world gives more bytes than are read
abbrev pub got_in : {O : Type 0} → Answer O → Result Got Fault
got_in (answers.Bytes bytes) = if_small (nat_le (length bytes) file_limit) bytes
got_in answers.Absent = Ok Absent
got_in answers.TooLong = Ok TooLong
got_in _ = Err impossible_answer

-- one file is asked for
abbrev pub ask_file : {K O A : Type 0} → List ℕ → (Got → Stages K O A) → Stages K O A
ask_file path next =
    stage (ask.File path ∷ []) (λ given. attempt (given_file given path) (λ x. attempt (got_in x) next))

-- lines and faults end, a path that is wanted is asked
abbrev pub by_stop : {K O : Type 0} → Result Lines Stop → (List ℕ → Stages K O Lines)
    → Stages K O Lines
by_stop (Ok lines) more = end (Ok lines)
by_stop (Err (bad fault)) more = end (Err fault)
by_stop (Err (need path)) more = more path

-- the lines of a document of which some files are known, where so many more may be asked
unfoldable pub lines_after : {K O : Type 0} → ℕ → List ℕ → List Macro → List Macro → List Known
    → Stages K O Lines
lines_after zero root macros fixed files =
    by_stop (expansion (answer files) root macros fixed) (λ path. end (Err impossible_answer))
lines_after (suc n) root macros fixed files =
    by_stop (expansion (answer files) root macros fixed)
    (λ path. ask_file path
    (λ got. lines_after n root macros fixed (with_answer files path got)))

-- the answers that a document can want
unfoldable pub most_files : ℕ
most_files = 1 + (file_limit + 1) * most (file_limit + 1) 31

abbrev pub lines_of : {K O : Type 0} → List ℕ → List Macro → List Macro → Stages K O Lines
lines_of root macros fixed = lines_after most_files root macros fixed []

-- what is known of one file
abbrev pub got_step : {K O : Type 0} → (Ask K → Ask K → Bool) → Fits K O → Answers K O → List ℕ
    → Result Got (Halt K)
got_step same fits known path =
    and_then (gather same fits known (ask.File path ∷ []))
    (λ given. and_then (ended (given_file given path)) (λ x. ended (got_in x)))
