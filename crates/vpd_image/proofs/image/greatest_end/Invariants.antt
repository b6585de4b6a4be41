use Rattle.std.proofs.Common.{◌≡◌, ◌≤◌, ◌<◌, ◌^◌, length, drop, map}
use Rattle.vpd_image.specs.Places.{greatest_end}
use Rattle.vpd_image.specs.Tables.{placed_view}
use Rattle.vpd_image.proofs.image.greatest_end.Given as goal

abbrev pub invariant-loop-i : goal.invariant-loop-i
invariant-loop-i l = record {
  within : l.i ≤ length l.all;
  small : l.end < 2 ^ 33;
  so_far : l.end ≡ greatest_end (map placed_view (drop l.i l.all));
}

abbrev pub decreases-loop-i : goal.decreases-loop-i
decreases-loop-i l = l.i
