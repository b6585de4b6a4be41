use Rattle.std.proofs.Common.{◌≡◌, map, take, None}
use Rattle.pcd_resolve.proofs.sku_values.none_known.Given as goal

abbrev pub invariant-loop-sku : goal.invariant-loop-sku
invariant-loop-sku l = l.known.items ≡ map (λ sku. None) (take l._sku-index l.skus)
