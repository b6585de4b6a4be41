use Rattle.std.proofs.Common.{length, ◌≡◌, ◌++◌}
use Rattle.flash_document.specs.Columns.{column}
use Rattle.flash_document.specs.Volumes.{rule_sections}
use Rattle.flash_document.proofs.rule.sections_of.Given as goal

abbrev pub invariant-loop-left : goal.invariant-loop-left
invariant-loop-left l = l.sections ++ column rule_sections l.k l.left ≡ column rule_sections l.k l.lines

abbrev pub decreases-loop-left : goal.decreases-loop-left
decreases-loop-left l = length l.left
