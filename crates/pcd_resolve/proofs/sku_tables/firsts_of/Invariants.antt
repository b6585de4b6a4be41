use Rattle.std.proofs.Common.{◌≤◌, length}
use Rattle.pcd_resolve.specs.SkuTables.{FirstsFrom}
use Rattle.pcd_resolve.proofs.sku_tables.firsts_of.Given as goal

abbrev pub invariant-loop-place : goal.invariant-loop-place
invariant-loop-place l = record {
  place : l.place ≤ length l.skus;
  table : FirstsFrom l.skus l.place l.firsts;
}

abbrev pub decreases-loop-place : goal.decreases-loop-place
decreases-loop-place l = l.place
