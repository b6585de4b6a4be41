use Rattle.std.proofs.Common.{◌≡◌, ◌++◌, length}
use Rattle.library_choice.specs.Choices.{callers}
use Rattle.library_choice.proofs.callers.callers.Given as goal

abbrev pub invariant-loop-left : goal.invariant-loop-left
invariant-loop-left l = l.rows ++ callers l.tables.infs l.left ≡ callers l.tables.infs l.found

abbrev pub decreases-loop-left : goal.decreases-loop-left
decreases-loop-left l = length l.left
