-- The first keys were looked at.
use Rattle.std.proofs.Common.{Contains, ◌⊎◌, []}
use Rattle.step_engine.specs.Table.{place_at}
use Rattle.step_engine.specs.Pooling.{Holds}
use Rattle.step_engine.specs.Scanning.{ScansAll}
use Rattle.step_engine.specs.Forward.{HasItem, HasWaiting, Looks}
use Rattle.step_engine.specs.declared.items.Item.{Item}
use Rattle.step_engine.specs.declared.places.Place.{Place}
use Rattle.step_engine.proofs.scan.scan_all.Given as goal

abbrev pub invariant-loop-item : goal.invariant-loop-item
invariant-loop-item g l = record {
  here : ScansAll l.fn.items.items l.fn.old l.fn.book (place_at g.R.Key.Ord.cmp l.fn.places) l.book (place_at g.R.Key.Ord.cmp l.places) l.opened.items;
  held : (a : Item _ _) → Holds l.waiting.items a → Contains l.fn.items.items a ⊎ Holds l.fn.waiting.items a;
  looks : Looks g.R.Rules.means.rank (place_at g.R.Key.Ord.cmp l.fn.places) (place_at g.R.Key.Ord.cmp l.places) (λ k p. ⊥) [] l.opened.items l.fn.waiting.items l.waiting.items;
  passed : (k : _) (p : Place) → HasItem l.fn.items.items k p → HasItem l.item-iterator.rest.items k p ⊎ HasWaiting l.waiting.items k p;
  left : (a : Item _ _) → Contains l.item-iterator.rest.items a → Contains l.fn.items.items a;
}
