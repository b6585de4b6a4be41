use Rattle.std.proofs.Common.{◌≡◌, ◌++◌, length}
use Rattle.library_steps.specs.Asks.{dec_asks}
use Rattle.library_steps.proofs.asks.push_decs.Given as goal

abbrev pub invariant-loop-left : goal.invariant-loop-left
invariant-loop-left l = l.asks ++ dec_asks l.left ≡ l.fn.asks ++ dec_asks l.paths

abbrev pub decreases-loop-left : goal.decreases-loop-left
decreases-loop-left l = length l.left
