-- What the rest notes.
use Rattle.std.proofs.Common.{length}
use Rattle.step_cache.specs.Agreement.{Table, HasAskOf, Notes}
use Rattle.step_cache.proofs.agreeing.note_batches.Given as goal

abbrev pub invariant-loop-left : goal.invariant-loop-left
invariant-loop-left l = (new : Table) → Notes (HasAskOf l.left) l.known new → Notes (HasAskOf l.batches) l.fn.known new

abbrev pub decreases-loop-left : goal.decreases-loop-left
decreases-loop-left l = length l.left
