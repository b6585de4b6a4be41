use Rattle.pcd_resolve.specs.PcdLines.{own_values, HasTables}
use Rattle.pcd_resolve.specs.SkuTables.{AreKnown}
use Rattle.pcd_resolve.proofs.sku_values.sources_of.Given as goal

abbrev pub invariant-loop-place : goal.invariant-loop-place
invariant-loop-place l = HasTables l.pcd → AreKnown (own_values l.pcd) l.pcd.skus.now l.place-index l.known.items
