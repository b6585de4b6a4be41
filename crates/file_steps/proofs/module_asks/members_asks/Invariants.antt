use Rattle.std.proofs.Common.{◌≡◌, ◌++◌, length}
use Rattle.file_steps.specs.ModuleAsks.{members_asks}
use Rattle.file_steps.proofs.module_asks.members_asks.Given as goal

abbrev pub invariant-loop-left : goal.invariant-loop-left
invariant-loop-left l = l.asks ++ members_asks l.left ≡ members_asks l.members

abbrev pub decreases-loop-left : goal.decreases-loop-left
decreases-loop-left l = length l.left
