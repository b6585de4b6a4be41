use Rattle.std.proofs.Common.{◌-◌}
use Rattle.library_choice.specs.Closure.{same_path, is_known, next}
use Rattle.library_choice.specs.Fronts.{PassedKnown}
use Rattle.library_choice.proofs.front.pass_known.Given as goal

abbrev pub invariant-loop-at : goal.invariant-loop-at
invariant-loop-at l = PassedKnown same_path (is_known l.tables.infs) (next l.tables) l.fn.found l.fn.from l.found l.at

abbrev pub decreases-loop-at : goal.decreases-loop-at
decreases-loop-at l = 1025 - l.at
