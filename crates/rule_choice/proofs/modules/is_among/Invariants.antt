use Rattle.std.proofs.Common.{◌≡◌, length}
use Rattle.rule_choice.specs.Modules.{is_among}
use Rattle.rule_choice.proofs.modules.is_among.Given as goal

abbrev pub invariant-loop-left : goal.invariant-loop-left
invariant-loop-left l = is_among l.arch l.left ≡ is_among l.arch l.arches

abbrev pub decreases-loop-left : goal.decreases-loop-left
decreases-loop-left l = length l.left
