use Rattle.std.proofs.Common.{◌≡◌, length}
use Rattle.step_cache.specs.Checking.{ascend}
use Rattle.step_cache.proofs.checking.ascend.Given as goal

abbrev pub invariant-loop-left : goal.invariant-loop-left
invariant-loop-left l = ascend l.left ≡ ascend l.entries

abbrev pub decreases-loop-left : goal.decreases-loop-left
decreases-loop-left l = length l.left
