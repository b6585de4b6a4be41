use Rattle.std.proofs.Common.{◌≡◌, map, drop, Some, []}
use Rattle.macro_expressions.specs.ExpressionTree.{term_view}
use Rattle.macro_expressions.specs.ExpressionMachine.{run, wanting}
use Rattle.macro_expressions.specs.ExpressionState.{state_of}
use Rattle.macro_expressions.proofs.machine.run.Given as goal

abbrev pub invariant-loop-term : goal.invariant-loop-term
invariant-loop-term l = run (Some (state_of l.machine)) (drop l.term-index (map term_view l.terms)) ≡ run (Some (wanting [])) (map term_view l.terms)
