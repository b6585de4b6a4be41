use Rattle.std.proofs.Common.{◌≡◌, drop}
use Rattle.cache_keepers.specs.Failing.{left_at}
use Rattle.cache_keepers.proofs.memory_keeper.left_at.Given as goal

abbrev pub invariant-loop-fail : goal.invariant-loop-fail
invariant-loop-fail l = left_at l.fails l.call ≡ left_at (drop l.fail-index l.fails) l.call
