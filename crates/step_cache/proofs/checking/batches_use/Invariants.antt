use Rattle.std.proofs.Common.{◌≡◌, length}
use Rattle.step_cache.specs.Checking.{batches_use}
use Rattle.step_cache.proofs.checking.batches_use.Given as goal

abbrev pub invariant-loop-left : goal.invariant-loop-left
invariant-loop-left l = batches_use l.count l.left l.seen ≡ batches_use l.count l.batches l.before

abbrev pub decreases-loop-left : goal.decreases-loop-left
decreases-loop-left l = length l.left
