use Rattle.std.proofs.Common.{◌≡◌, ◌++◌, length}
use Rattle.volume_steps.specs.Asks.{item_asks}
use Rattle.volume_steps.proofs.OrderLemmas.{number_asks}
use Rattle.volume_steps.proofs.asks.item_asks.Given as goal

abbrev pub invariant-loop-left : goal.invariant-loop-left
invariant-loop-left l = l.asks ++ number_asks l.volume l.left ≡ item_asks l.volume l.items

abbrev pub decreases-loop-left : goal.decreases-loop-left
decreases-loop-left l = length l.left
