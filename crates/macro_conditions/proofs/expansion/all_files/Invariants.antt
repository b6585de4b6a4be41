use Rattle.macro_conditions.specs.Sources.{answer}
use Rattle.macro_conditions.specs.Work.{env_of}
use Rattle.macro_conditions.specs.OpenFiles.{Moves, files_of, within, stack_of, weight}
use Rattle.macro_conditions.proofs.expansion.all_files.Given as goal

abbrev pub invariant-loop-file : goal.invariant-loop-file
invariant-loop-file l = Moves (answer l.given.known.now) l.given.fixed.now (files_of l.fn.left) (within l.fn.left) (stack_of l.files.items) (env_of l.work)

abbrev pub decreases-loop-file : goal.decreases-loop-file
decreases-loop-file l = weight (stack_of l.files.items)
