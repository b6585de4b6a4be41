-- The lines of a document in a world, which tells of every path what is got (EDK II DSC
-- specification, !include statements).
use Rattle.std.specs.Prelude.{◌≡◌, ℕ, List, Result, Ok, Err, true}
use Rattle.build_base.specs.Outside.{IsWithin}
use Rattle.build_base.specs.World.{file_limit}
use Rattle.build_base.specs.declared.fault.Fault.{Fault}
use Rattle.build_base.specs.declared.lines.Lines.{Lines}
use Rattle.build_base.specs.declared.outside.Got.{Got}
use Rattle.macro_conditions.specs.Expansion.{Stop, bad, need}
use Rattle.step_engine.specs.Meaning.{answer_of}
use Rattle.step_engine.specs.declared.talk.Ask.{Ask}
use Rattle.step_engine.specs.declared.talk.Ask.TheVariants as ask
use Rattle.step_engine.specs.declared.talk.Answer.{Answer}
use Rattle.build_stages.specs.Stages.{Fits, impossible_answer}

-- a world wants no path
abbrev pub world_lines : Result Lines Stop → Result Lines Fault
world_lines (Ok lines) = Ok lines
world_lines (Err (bad fault)) = Err fault
world_lines (Err (need path)) = Err impossible_answer

-- what a world's files are for a set of rules
pub record TellsFiles {K O : Type 0} (fits : Fits K O) (o : Ask K → Answer O) (world : List ℕ → Got)
    : Type 0 where
  pub is : (path : List ℕ) → o (ask.File path) ≡ answer_of (world path)
  pub fit : (path : List ℕ) → fits (ask.File path) (o (ask.File path)) ≡ true
  pub within : (path : List ℕ) → IsWithin file_limit (world path)
