use Rattle.std.proofs.Common.{length, ◌≡◌}
use Rattle.flash_document.specs.Volumes.{rule_head}
use Rattle.flash_document.proofs.rule.head_of.Given as goal

abbrev pub invariant-loop-left : goal.invariant-loop-left
invariant-loop-left l = rule_head l.k l.left ≡ rule_head l.k l.lines

abbrev pub decreases-loop-left : goal.decreases-loop-left
decreases-loop-left l = length l.left
