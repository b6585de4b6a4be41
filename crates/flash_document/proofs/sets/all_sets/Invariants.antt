use Rattle.std.proofs.Common.{◌≡◌, ◌++◌, length}
use Rattle.flash_document.specs.Sets.{all_sets}
use Rattle.flash_document.proofs.sets.all_sets.Given as goal

abbrev pub invariant-loop-left : goal.invariant-loop-left
invariant-loop-left l = l.sets ++ all_sets l.left ≡ all_sets l.lines

abbrev pub decreases-loop-left : goal.decreases-loop-left
decreases-loop-left l = length l.left
