use Rattle.std.proofs.Common.{length, ◌≡◌, ◌++◌}
use Rattle.flash_document.specs.Volumes.{items_of}
use Rattle.flash_document.proofs.volume.items_of.Given as goal

abbrev pub invariant-loop-left : goal.invariant-loop-left
invariant-loop-left l = l.items ++ items_of l.k l.left ≡ items_of l.k l.lines

abbrev pub decreases-loop-left : goal.decreases-loop-left
decreases-loop-left l = length l.left
