use Rattle.std.proofs.Common.{◌≡◌}
use Rattle.dsc_platform.specs.SkuWalks.{comes_by, is_loop}
use Rattle.dsc_platform.proofs.sku_walks.is_loop.Given as goal

abbrev pub invariant-loop-steps : goal.invariant-loop-steps
invariant-loop-steps l = comes_by l.parents l.start l.steps l.place ≡ is_loop l.parents l.start

abbrev pub decreases-loop-steps : goal.decreases-loop-steps
decreases-loop-steps l = l.steps
