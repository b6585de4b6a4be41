-- The first entries were looked at.
use Rattle.std.proofs.Common.{take}
use Rattle.step_engine.specs.Caches.{AreOthers}
use Rattle.step_engine.proofs.brought.other_entries.Given as goal

abbrev pub invariant-loop-entry : goal.invariant-loop-entry
invariant-loop-entry g l = AreOthers l.made (take l.entry-index l.entry-items) l.others.items
