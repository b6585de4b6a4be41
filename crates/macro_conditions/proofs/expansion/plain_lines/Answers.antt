use Rattle.std.proofs.Common.{refl, sym, ◌∙◌, drop, arith, Ok}
use Rattle.macro_conditions.specs.LineStack.{run}
use Rattle.macro_conditions.specs.Expansion.{acts}
use Rattle.macro_conditions.specs.Work.{state_of}
use Rattle.macro_conditions.specs.OpenFiles.{lines_at}
use Rattle.macro_conditions.proofs.FileTurns.{file_stops}
use Rattle.macro_conditions.proofs.OpenFileLemmas.{line_goes}
use Rattle.macro_conditions.proofs.expansion.plain_lines.Goals as goal

pub loop-at-preserved : goal.loop-at-preserved
loop-at-preserved c =
    let p = c.args.file.path.now in
    let b = c.args.file.bytes.now in
    record {
      goes = λ i.
          c.loop-at.invariant.goes i
          ∙ line_goes c.args.fixed.now (state_of p b c.loop-at.frames c.loop-at.work) (state_of p b c.one_line.new.frames c.one_line.new.work) p b c.args.lines.now c.loop-at.at _ _ c.in-Ok-false.field-0 c.in-Ok-false.field-0-test c.loop-at-test.true refl c.in-Ok-false.ensures.steps i;
      further = omega (arith, c.loop-at.invariant.further);
      open_files = c.in-Ok-false.ensures.open_files ∙ c.loop-at.invariant.open_files;
    }

pub returns-in-Err-clause-goes : goal.returns-in-Err-clause-goes
returns-in-Err-clause-goes c = λ i.
    let p = c.args.file.path.now in
    let b = c.args.file.bytes.now in
    file_stops (acts c.args.fixed.now i) c.in-Err.stopped (state_of p b c.loop-at.frames c.loop-at.work) p b c.args.lines.now c.loop-at.at _ _
    (run (acts c.args.fixed.now i) (Ok (state_of p b c.args.frames.now c.args.work.now)) (drop c.args.from (lines_at p b c.args.lines.now))) c.loop-at-test.true refl (c.in-Err.ensures.steps i) (sym (c.loop-at.invariant.goes i))
