use Rattle.std.proofs.Common.{◌≡◌, length}
use Rattle.rule_choice.specs.Modules.{other_arch}
use Rattle.rule_choice.proofs.modules.other_arch.Given as goal

abbrev pub invariant-loop-left : goal.invariant-loop-left
invariant-loop-left l = other_arch l.arch l.left ≡ other_arch l.arch l.arches

abbrev pub decreases-loop-left : goal.decreases-loop-left
decreases-loop-left l = length l.left
