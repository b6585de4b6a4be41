use Rattle.std.proofs.Common.{◌≡◌, ◌≤◌, length, map, drop, reverse}
use Rattle.vpd_image.specs.Entries.{entries}
use Rattle.vpd_image.specs.Tables.{IsLeft, entry_view}
use Rattle.vpd_image.proofs.lines.entries_up.Given as goal

abbrev pub invariant-loop-place : goal.invariant-loop-place
invariant-loop-place l = record {
  place : l.place ≤ length l.lines;
  table : IsLeft l.arches l.rows (drop l.place l.lines) l.table;
  found : map entry_view l.found.items ≡ reverse (entries l.arches l.rows (drop l.place l.lines));
}

abbrev pub decreases-loop-place : goal.decreases-loop-place
decreases-loop-place l = l.place
