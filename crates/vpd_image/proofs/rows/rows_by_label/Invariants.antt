use Rattle.std.proofs.Common.{◌≤◌, length}
use Rattle.vpd_image.specs.Tables.{IsTableFrom}
use Rattle.vpd_image.proofs.rows.rows_by_label.Given as goal

abbrev pub invariant-loop-place : goal.invariant-loop-place
invariant-loop-place l = record {
  place : l.place ≤ length l.rows;
  table : IsTableFrom l.rows l.place l.table;
}

abbrev pub decreases-loop-place : goal.decreases-loop-place
decreases-loop-place l = l.place
