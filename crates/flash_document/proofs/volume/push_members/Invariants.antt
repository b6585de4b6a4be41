use Rattle.std.proofs.Common.{length, ◌≡◌, ◌++◌}
use Rattle.flash_document.specs.Volumes.{members_in}
use Rattle.flash_document.proofs.volume.push_members.Given as goal

abbrev pub invariant-loop-left : goal.invariant-loop-left
invariant-loop-left l = l.members ++ members_in l.k l.left ≡ l.fn.members ++ members_in l.k l.lines

abbrev pub decreases-loop-left : goal.decreases-loop-left
decreases-loop-left l = length l.left
