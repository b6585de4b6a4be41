use Rattle.std.proofs.Common.{◌≡◌, ◌++◌, length}
use Rattle.file_steps.specs.Asks.{section_volumes}
use Rattle.file_steps.proofs.asks.push_volumes.Given as goal

abbrev pub invariant-loop-left : goal.invariant-loop-left
invariant-loop-left l = l.asks ++ section_volumes l.volumes l.left ≡ l.fn.asks ++ section_volumes l.volumes l.sections

abbrev pub decreases-loop-left : goal.decreases-loop-left
decreases-loop-left l = length l.left
