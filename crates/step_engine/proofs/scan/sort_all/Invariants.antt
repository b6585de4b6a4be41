-- The first keys were sorted.
use Rattle.std.proofs.Common.{Contains, ◌⊎◌, ℕ, []}
use Rattle.step_engine.specs.Pooling.{Holds, Parks}
use Rattle.step_engine.specs.Table.{place_at}
use Rattle.step_engine.specs.Forward.{HasItem, HasWaiting, HasParked, AreWaiting, Sorts}
use Rattle.step_engine.specs.declared.items.Item.{Item}
use Rattle.step_engine.specs.declared.places.Place.{Place}
use Rattle.step_engine.specs.declared.items.Waiting.{Waiting}
use Rattle.step_engine.proofs.scan.sort_all.Given as goal

abbrev pub invariant-loop-one : goal.invariant-loop-one
invariant-loop-one g l = record {
  here : (a : Item _ _) → Contains l.able.items a ⊎ Parks g.K.Ord.cmp l.parked a → Holds l.fn.waiting.items a ⊎ Parks g.K.Ord.cmp l.fn.parked a;
  sorts : (rank : _ → ℕ) → Sorts g.K.Ord.cmp rank (place_at g.K.Ord.cmp l.places) (AreWaiting rank (place_at g.K.Ord.cmp l.places) l.fn.waiting.items) (λ k p. ⊥) l.fn.parked l.parked [] l.able.items;
  passed : (k : _) (p : Place) → HasWaiting l.fn.waiting.items k p → HasWaiting l.one-iterator.rest.items k p ⊎ (HasItem l.able.items k p ⊎ HasParked g.K.Ord.cmp l.parked k p);
  left : (w : Waiting _ _) → Contains l.one-iterator.rest.items w → Contains l.fn.waiting.items w;
}
