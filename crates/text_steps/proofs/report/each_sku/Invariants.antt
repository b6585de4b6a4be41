use Rattle.std.proofs.Common.{◌≡◌, map, take}
use Rattle.text_steps.proofs.report.each_sku.Given as goal

abbrev pub invariant-loop-sku : goal.invariant-loop-sku
invariant-loop-sku l = l.rows ≡ map (λ sku. sku.now) (take l.sku-index l.skus)
