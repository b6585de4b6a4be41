use Rattle.std.proofs.Common.{◌≡◌, ◌++◌, length}
use Rattle.rule_choice.specs.Modules.{having}
use Rattle.rule_choice.proofs.modules.having.Given as goal

abbrev pub invariant-loop-left : goal.invariant-loop-left
invariant-loop-left l = l.found ++ having l.components l.inf l.left ≡ having l.components l.inf l.arches

abbrev pub decreases-loop-left : goal.decreases-loop-left
decreases-loop-left l = length l.left
