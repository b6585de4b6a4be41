use Rattle.std.proofs.Common.{length, ◌≡◌, fold}
use Rattle.flash_document.specs.Volumes.{with_flag, flags_of}
use Rattle.flash_document.proofs.volume.flags_of.Given as goal

abbrev pub invariant-loop-left : goal.invariant-loop-left
invariant-loop-left l = fold (with_flag l.k l.lines) l.flags l.left ≡ flags_of l.k l.lines

abbrev pub decreases-loop-left : goal.decreases-loop-left
decreases-loop-left l = length l.left
