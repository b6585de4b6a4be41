use Rattle.std.proofs.Common.{◌≡◌, length, map}
use Rattle.vpd_image.specs.Places.{long_fault}
use Rattle.vpd_image.specs.Tables.{placed_view}
use Rattle.vpd_image.proofs.places.check_ends.Given as goal

abbrev pub invariant-loop-left : goal.invariant-loop-left
invariant-loop-left l = long_fault (map placed_view l.left) ≡ long_fault (map placed_view l.fixed)

abbrev pub decreases-loop-left : goal.decreases-loop-left
decreases-loop-left l = length l.left
