use Rattle.std.proofs.Common.{◌≡◌, map, take, drop, []}
use Rattle.vpd_image.specs.Places.{overlap_fault}
use Rattle.vpd_image.specs.Rooms.{Holds}
use Rattle.vpd_image.specs.Tables.{placed_view}
use Rattle.vpd_image.proofs.places.take_all_written.Given as goal

abbrev pub invariant-loop-i : goal.invariant-loop-i
invariant-loop-i l = record {
  holds : Holds (map placed_view (take l.i l.fixed)) l.room;
  left : overlap_fault (map placed_view (take l.i l.fixed)) (map placed_view (drop l.i l.fixed)) ≡ overlap_fault [] (map placed_view l.fixed);
}
