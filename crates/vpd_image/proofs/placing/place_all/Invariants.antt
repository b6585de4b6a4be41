use Rattle.std.proofs.Common.{◌≡◌, [], map, drop, None}
use Rattle.vpd_image.specs.Places.{placed_before, placed_from, long_fault}
use Rattle.vpd_image.specs.Rooms.{Holds}
use Rattle.vpd_image.specs.Tables.{entry_view, placed_view}
use Rattle.vpd_image.proofs.placing.place_all.Given as goal

abbrev pub invariant-loop-i : goal.invariant-loop-i
invariant-loop-i l = record {
  holds : Holds (placed_before (map placed_view l.fixed) (map placed_view l.done.items)) l.room;
  fits : long_fault (map placed_view l.done.items) ≡ None;
  left : placed_from (map placed_view l.fixed) (map placed_view l.done.items) (map entry_view (drop l.i l.entries)) ≡ placed_from (map placed_view l.fixed) [] (map entry_view l.entries);
}
