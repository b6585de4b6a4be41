use Rattle.std.proofs.Common.{◌≡◌, ◌++◌, ◌+◌, ◌≤◌, length}
use Rattle.volume_steps.specs.Asks.{is_apriori, numbers_where}
use Rattle.volume_steps.proofs.asks.push_apriori.Given as goal

abbrev pub invariant-loop-left : goal.invariant-loop-left
invariant-loop-left l = (l.order ++ numbers_where is_apriori l.number l.left ≡ l.fn.order ++ numbers_where is_apriori 0 l.items) × (l.number + length l.left ≤ length l.items)

abbrev pub decreases-loop-left : goal.decreases-loop-left
decreases-loop-left l = length l.left
