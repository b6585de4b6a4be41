use Rattle.std.proofs.Common.{◌≡◌}
use Rattle.library_steps.specs.Skus.{reaches}
use Rattle.library_steps.proofs.skus.reaches.Given as goal

abbrev pub invariant-loop-left : goal.invariant-loop-left
invariant-loop-left l = reaches l.skus l.name l.left ≡ reaches l.skus l.sku l.count

abbrev pub decreases-loop-left : goal.decreases-loop-left
decreases-loop-left l = l.left
