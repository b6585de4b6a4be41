use Rattle.std.proofs.Common.{◌≡◌, [], length}
use Rattle.step_cache.specs.Checking.{each_new}
use Rattle.step_cache.proofs.checking.each_new.Given as goal

abbrev pub invariant-loop-left : goal.invariant-loop-left
invariant-loop-left l = each_new l.seen l.left ≡ each_new [] l.pool

abbrev pub decreases-loop-left : goal.decreases-loop-left
decreases-loop-left l = length l.left
