use Rattle.std.proofs.Common.{◌≡◌, ◌++◌, length, map}
use Rattle.vpd_image.specs.Places.{written_entries}
use Rattle.vpd_image.specs.Tables.{entry_view, placed_view}
use Rattle.vpd_image.proofs.places.written_entries.Given as goal

abbrev pub invariant-loop-left : goal.invariant-loop-left
invariant-loop-left l = map placed_view l.found.items ++ written_entries (map entry_view l.left) ≡ written_entries (map entry_view l.entries)

abbrev pub decreases-loop-left : goal.decreases-loop-left
decreases-loop-left l = length l.left
