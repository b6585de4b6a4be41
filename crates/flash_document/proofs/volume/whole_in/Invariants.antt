use Rattle.std.proofs.Common.{length, ◌≡◌}
use Rattle.flash_document.specs.Volumes.{whole_in}
use Rattle.flash_document.proofs.volume.whole_in.Given as goal

abbrev pub invariant-loop-left : goal.invariant-loop-left
invariant-loop-left l = whole_in l.k l.left ≡ whole_in l.k l.lines

abbrev pub decreases-loop-left : goal.decreases-loop-left
decreases-loop-left l = length l.left
