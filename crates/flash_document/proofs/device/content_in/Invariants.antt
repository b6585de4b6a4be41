use Rattle.std.proofs.Common.{length, ◌≡◌}
use Rattle.flash_document.specs.Devices.{content_in}
use Rattle.flash_document.proofs.device.content_in.Given as goal

abbrev pub invariant-loop-left : goal.invariant-loop-left
invariant-loop-left l = content_in l.k l.left ≡ content_in l.k l.lines

abbrev pub decreases-loop-left : goal.decreases-loop-left
decreases-loop-left l = length l.left
