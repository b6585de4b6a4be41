use Rattle.std.proofs.Common.{◌≡◌, length}
use Rattle.step_cache.specs.Checking.{asks_use}
use Rattle.step_cache.proofs.checking.asks_use.Given as goal

abbrev pub invariant-loop-left : goal.invariant-loop-left
invariant-loop-left l = asks_use l.count l.left l.seen ≡ asks_use l.count l.asked l.before

abbrev pub decreases-loop-left : goal.decreases-loop-left
decreases-loop-left l = length l.left
