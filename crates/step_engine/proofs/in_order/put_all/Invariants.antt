-- The first entries are put.
use Rattle.std.proofs.Common.{Contains, ◌⊎◌}
use Rattle.step_engine.specs.Caches.{AreInOrder}
use Rattle.step_engine.specs.Rounds.{IsOneEach}
use Rattle.step_engine.specs.declared.talk.Entry.{Entry}
use Rattle.step_engine.proofs.in_order.put_all.Given as goal

abbrev pub invariant-loop-entry : goal.invariant-loop-entry
invariant-loop-entry g l = record {
  only : (e : Entry _ _) → Contains l.cache e → Contains l.fn.entries.items e;
  all : IsOneEach l.fn.entries.items → (e : Entry _ _) → Contains l.fn.entries.items e → Contains l.entry-iterator.rest.items e ⊎ Contains l.cache e;
  sorted : AreInOrder g.K.Ord.cmp l.cache;
  left : (a : Entry _ _) → Contains l.entry-iterator.rest.items a → Contains l.fn.entries.items a;
}
