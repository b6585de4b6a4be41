use Rattle.std.proofs.Common.{◌≡◌, ◌++◌, length}
use Rattle.text_steps.specs.Asks.{build_module_asks}
use Rattle.text_steps.proofs.asks.push_module_asks.Given as goal

abbrev pub invariant-loop-left : goal.invariant-loop-left
invariant-loop-left l = l.asks ++ build_module_asks l.left ≡ l.fn.asks ++ build_module_asks l.modules

abbrev pub decreases-loop-left : goal.decreases-loop-left
decreases-loop-left l = length l.left
