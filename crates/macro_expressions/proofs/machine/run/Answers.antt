use Rattle.std.proofs.Common.{sym, ◌∙◌}
use Rattle.macro_expressions.specs.ExpressionState.{state_of}
use Rattle.macro_expressions.proofs.ExpressionTurns.{run_goes, run_stops}
use Rattle.macro_expressions.proofs.machine.run.Goals as goal

pub returns-then-not-branch : goal.returns-then-not-branch
returns-then-not-branch c =
    let e = rw c.if-not-branch.true at c.in_ok-step.ensures in
    sym (run_stops (state_of c.loop-term.machine) c.args.terms.now c.loop-term.term-index _ c.loop-term-test.true e) ∙ c.loop-term.invariant

pub loop-term-preserved : goal.loop-term-preserved
loop-term-preserved c =
    let e = rw c.if-not-branch.false at c.in_ok-step.ensures in
    sym (run_goes (state_of c.loop-term.machine) (state_of c.step.new.self) c.args.terms.now c.loop-term.term-index _ c.loop-term-test.true e) ∙ c.loop-term.invariant
