use Rattle.std.proofs.Common.{◌≡◌, ◌++◌, length}
use Rattle.volume_steps.specs.Asks.{region_asks}
use Rattle.volume_steps.proofs.asks.region_asks.Given as goal

abbrev pub invariant-loop-left : goal.invariant-loop-left
invariant-loop-left l = l.asks ++ region_asks l.volumes l.vpd l.left ≡ region_asks l.volumes l.vpd l.regions

abbrev pub decreases-loop-left : goal.decreases-loop-left
decreases-loop-left l = length l.left
