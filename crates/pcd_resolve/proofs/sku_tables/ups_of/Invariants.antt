use Rattle.std.proofs.Common.{◌≡◌, map, take}
use Rattle.pcd_resolve.specs.SkuTables.{up_of}
use Rattle.pcd_resolve.proofs.sku_tables.ups_of.Given as goal

abbrev pub invariant-loop-sku : goal.invariant-loop-sku
invariant-loop-sku l = l.ups.items ≡ map (λ sku. up_of l.skus l.firsts sku.name) (take l.sku-index l.skus)
