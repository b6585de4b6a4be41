use Rattle.std.proofs.Common.{◌≡◌, ◌≤◌, length, take}
use Rattle.flash_document.specs.Sets.{region_above}
use Rattle.flash_document.proofs.sets.region_above.Given as goal

abbrev pub invariant-loop-i : goal.invariant-loop-i
invariant-loop-i l = (l.i ≤ length l.above) × (region_above l.k (take l.i l.above) ≡ region_above l.k l.above)

abbrev pub decreases-loop-i : goal.decreases-loop-i
decreases-loop-i l = l.i
