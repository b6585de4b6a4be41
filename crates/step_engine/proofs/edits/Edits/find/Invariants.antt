-- What is left to be looked through gives the rest of the answer.
use Rattle.std.proofs.Common.{◌≡◌, None, length}
use Rattle.std.specs.Option.{option_copied}
use Rattle.step_engine.specs.Edits.{last_edit}
use Rattle.step_engine.proofs.edits.Edits.find.Given as goal

abbrev pub invariant-loop-left : goal.invariant-loop-left
invariant-loop-left l = last_edit (option_copied l.found) l.left l.path ≡ last_edit None l.fn.self l.path

abbrev pub decreases-loop-left : goal.decreases-loop-left
decreases-loop-left l = length l.left
