use Rattle.std.proofs.Common.{◌≡◌, map, take, false}
use Rattle.library_steps.proofs.near.no_marks.Given as goal

abbrev pub invariant-loop-sku : goal.invariant-loop-sku
invariant-loop-sku l = l.marks.items ≡ map (λ sku. false) (take l._sku-index l.skus)
