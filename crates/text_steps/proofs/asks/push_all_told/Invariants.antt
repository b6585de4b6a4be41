use Rattle.std.proofs.Common.{◌≡◌, ◌++◌, length}
use Rattle.std.specs.List.{flat_map}
use Rattle.text_steps.specs.Asks.{told_asks}
use Rattle.text_steps.proofs.asks.push_all_told.Given as goal

abbrev pub invariant-loop-left : goal.invariant-loop-left
invariant-loop-left l = l.asks ++ flat_map told_asks l.left ≡ l.fn.asks ++ flat_map told_asks l.modules

abbrev pub decreases-loop-left : goal.decreases-loop-left
decreases-loop-left l = length l.left
