-- What the rest notes.
use Rattle.std.proofs.Common.{length}
use Rattle.step_cache.specs.Agreement.{Table, HasAskIn, Notes}
use Rattle.step_cache.proofs.agreeing.note_entries.Given as goal

abbrev pub invariant-loop-left : goal.invariant-loop-left
invariant-loop-left l = (new : Table) → Notes (HasAskIn l.left) l.known new → Notes (HasAskIn l.entries) l.fn.known new

abbrev pub decreases-loop-left : goal.decreases-loop-left
decreases-loop-left l = length l.left
