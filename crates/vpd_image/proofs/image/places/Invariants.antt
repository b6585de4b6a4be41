use Rattle.std.proofs.Common.{◌≡◌, ◌++◌, length, map}
use Rattle.vpd_image.specs.Tables.{placed_view}
use Rattle.vpd_image.specs.Vpd.{place_of}
use Rattle.vpd_image.proofs.image.places.Given as goal

abbrev pub invariant-loop-left : goal.invariant-loop-left
invariant-loop-left l = l.found ++ map place_of (map placed_view l.left) ≡ map place_of (map placed_view l.all)

abbrev pub decreases-loop-left : goal.decreases-loop-left
decreases-loop-left l = length l.left
