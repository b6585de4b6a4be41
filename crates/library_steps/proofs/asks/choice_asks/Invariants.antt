use Rattle.std.proofs.Common.{◌≡◌, ◌++◌, length}
use Rattle.library_steps.specs.Asks.{choice_asks}
use Rattle.library_steps.proofs.asks.choice_asks.Given as goal

abbrev pub invariant-loop-left : goal.invariant-loop-left
invariant-loop-left l = l.asks ++ choice_asks l.left ≡ choice_asks l.modules

abbrev pub decreases-loop-left : goal.decreases-loop-left
decreases-loop-left l = length l.left
