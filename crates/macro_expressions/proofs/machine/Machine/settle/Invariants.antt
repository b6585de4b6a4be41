use Rattle.std.proofs.Common.{◌≡◌, length}
use Rattle.macro_expressions.specs.Values.{view}
use Rattle.macro_expressions.specs.ExpressionMachine.{waits_of, settle}
use Rattle.macro_expressions.proofs.machine.Machine.settle.Given as goal

abbrev pub invariant-loop-op : goal.invariant-loop-op
invariant-loop-op l = settle (waits_of l.self.waits.items) (view l.value) ≡ settle (waits_of l.initial.self.waits.items) (view l.operand)

abbrev pub decreases-loop-op : goal.decreases-loop-op
decreases-loop-op l = length (waits_of l.self.waits.items)
