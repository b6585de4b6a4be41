use Rattle.std.proofs.Common.{◌≡◌, length}
use Rattle.step_cache.specs.Checking.{entries_use}
use Rattle.step_cache.proofs.checking.entries_use.Given as goal

abbrev pub invariant-loop-left : goal.invariant-loop-left
invariant-loop-left l = entries_use l.count l.left l.seen ≡ entries_use l.count l.numbers l.before

abbrev pub decreases-loop-left : goal.decreases-loop-left
decreases-loop-left l = length l.left
