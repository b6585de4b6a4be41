use Rattle.std.proofs.Common.{◌≡◌, length}
use Rattle.macro_expressions.specs.Values.{view}
use Rattle.macro_expressions.specs.ExpressionMachine.{waits_of, reduce}
use Rattle.macro_expressions.proofs.machine.Machine.reduce.Given as goal

abbrev pub invariant-loop-left : goal.invariant-loop-left
invariant-loop-left l = reduce l.level (waits_of l.self.waits.items) (view l.value) ≡ reduce l.level (waits_of l.initial.self.waits.items) (view l.operand)

abbrev pub decreases-loop-left : goal.decreases-loop-left
decreases-loop-left l = length (waits_of l.self.waits.items)
