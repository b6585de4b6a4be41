use Rattle.std.proofs.Common.{◌≡◌, drop}
use Rattle.dsc_platform.specs.SkuWalks.{loops_from}
use Rattle.dsc_platform.proofs.sku_walks.check_walks.Given as goal

abbrev pub invariant-loop-place : goal.invariant-loop-place
invariant-loop-place l = loops_from l.parents l.place (drop l.place l.skus) ≡ loops_from l.parents 0 l.skus
