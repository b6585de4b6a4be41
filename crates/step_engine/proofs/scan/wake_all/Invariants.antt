-- Those that wait for the first entries are woken.
use Rattle.std.proofs.Common.{◌⊎◌}
use Rattle.step_engine.specs.Pooling.{Holds, Parks}
use Rattle.step_engine.specs.Forward.{Wakes}
use Rattle.step_engine.specs.declared.items.Item.{Item}
use Rattle.step_engine.proofs.QueueLemmas.{KeyAt}
use Rattle.step_engine.proofs.scan.wake_all.Given as goal

abbrev pub invariant-loop-entry : goal.invariant-loop-entry
invariant-loop-entry g l = record {
  among : (a : Item _ _) → Parks g.K.Ord.cmp l.parked a ⊎ Holds l.woken.items a → Parks g.K.Ord.cmp l.fn.parked a ⊎ Holds l.fn.woken.items a;
  all : Wakes g.K.Ord.cmp (KeyAt l.made l.entry-index) l.fn.parked l.parked l.fn.woken.items l.woken.items;
}
