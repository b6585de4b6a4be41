use Rattle.std.proofs.Common.{◌≡◌, ◌≤◌, ◌-◌, length, drop, Ok}
use Rattle.macro_conditions.specs.LineStack.{run}
use Rattle.macro_conditions.specs.Expansion.{acts}
use Rattle.macro_conditions.specs.Work.{state_of}
use Rattle.macro_conditions.specs.OpenFiles.{Include, lines_at}
use Rattle.macro_conditions.proofs.expansion.plain_lines.Given as goal

abbrev pub invariant-loop-at : goal.invariant-loop-at
invariant-loop-at l = record {
  goes : (i : Include) → run (acts l.fixed i) (Ok (state_of l.file.path.now l.file.bytes.now l.initial.frames l.initial.work)) (drop l.from (lines_at l.file.path.now l.file.bytes.now l.lines))
      ≡ run (acts l.fixed i) (Ok (state_of l.file.path.now l.file.bytes.now l.frames l.work)) (drop l.at (lines_at l.file.path.now l.file.bytes.now l.lines));
  further : l.from ≤ l.at;
  open_files : l.work.open_files.items ≡ l.initial.work.open_files.items;
}

abbrev pub decreases-loop-at : goal.decreases-loop-at
decreases-loop-at l = length l.lines - l.at
