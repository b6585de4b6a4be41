use Rattle.std.proofs.Common.{◌≡◌, length, map}
use Rattle.std.specs.Prelude.{find}
use Rattle.vpd_image.specs.Places.{shares}
use Rattle.vpd_image.specs.Tables.{placed_view}
use Rattle.vpd_image.proofs.places.first_shared.Given as goal

abbrev pub invariant-loop-left : goal.invariant-loop-left
invariant-loop-left l = find (shares l.start l.end) (map placed_view l.left) ≡ find (shares l.start l.end) (map placed_view l.above)

abbrev pub decreases-loop-left : goal.decreases-loop-left
decreases-loop-left l = length l.left
