use Rattle.std.proofs.Common.{◌≡◌, drop}
use Rattle.doc_types.specs.SkuWalks.{stated_parent}
use Rattle.pcd_values.proofs.skus.stated_parent.Given as goal

abbrev pub invariant-loop-sku : goal.invariant-loop-sku
invariant-loop-sku l = stated_parent (drop l.sku-index l.skus) l.name ≡ stated_parent l.skus l.name
