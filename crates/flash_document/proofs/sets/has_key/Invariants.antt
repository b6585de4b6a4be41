use Rattle.std.proofs.Common.{◌≡◌, length}
use Rattle.flash_document.specs.Sets.{has_key}
use Rattle.flash_document.proofs.sets.has_key.Given as goal

abbrev pub invariant-loop-left : goal.invariant-loop-left
invariant-loop-left l = has_key l.key l.k l.left ≡ has_key l.key l.k l.lines

abbrev pub decreases-loop-left : goal.decreases-loop-left
decreases-loop-left l = length l.left
