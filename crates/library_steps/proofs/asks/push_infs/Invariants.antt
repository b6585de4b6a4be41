use Rattle.std.proofs.Common.{◌≡◌, ◌++◌, length}
use Rattle.library_steps.specs.Asks.{inf_asks}
use Rattle.library_steps.proofs.asks.push_infs.Given as goal

abbrev pub invariant-loop-left : goal.invariant-loop-left
invariant-loop-left l = l.asks ++ inf_asks l.left ≡ l.fn.asks ++ inf_asks l.paths

abbrev pub decreases-loop-left : goal.decreases-loop-left
decreases-loop-left l = length l.left
