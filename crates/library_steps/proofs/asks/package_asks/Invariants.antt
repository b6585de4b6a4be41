use Rattle.std.proofs.Common.{◌≡◌, ◌++◌, length}
use Rattle.library_steps.specs.Asks.{package_asks}
use Rattle.library_steps.proofs.asks.package_asks.Given as goal

abbrev pub invariant-loop-left : goal.invariant-loop-left
invariant-loop-left l = l.asks ++ package_asks l.left ≡ package_asks l.modules

abbrev pub decreases-loop-left : goal.decreases-loop-left
decreases-loop-left l = length l.left
