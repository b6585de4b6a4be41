use Rattle.std.proofs.Common.{◌≡◌, ◌++◌, length}
use Rattle.file_steps.specs.ModuleAsks.{section_files}
use Rattle.file_steps.proofs.module_asks.section_files.Given as goal

abbrev pub invariant-loop-left : goal.invariant-loop-left
invariant-loop-left l = l.asks ++ section_files l.depex l.left ≡ section_files l.depex l.sections

abbrev pub decreases-loop-left : goal.decreases-loop-left
decreases-loop-left l = length l.left
