-- The first turns are taken up.
use Rattle.std.proofs.Common.{Contains, ◌⊎◌, length}
use Rattle.step_engine.specs.Engine.{Grows}
use Rattle.step_engine.specs.Table.{place_at}
use Rattle.step_engine.specs.Taking.{Takes}
use Rattle.step_engine.specs.Forward.{HasItem, HasTurned, GoesOn, Enters}
use Rattle.step_engine.specs.declared.items.Turned.{Turned}
use Rattle.step_engine.proofs.turns.take_all.Given as goal

abbrev pub invariant-loop-turned : goal.invariant-loop-turned
invariant-loop-turned g l = record {
  here : Takes l.fn.fresh.items (place_at g.K.Ord.cmp l.fn.places) l.fn.done.items l.fn.rest.items l.fresh.items (place_at g.K.Ord.cmp l.places) l.rest.items;
  grows : Grows l.fn.fresh.items l.fresh.items;
  goes : GoesOn g.row.O.Denot g.K.Ord.cmp (length l.fn.fresh.items) (length l.fresh.items) (place_at g.K.Ord.cmp l.fn.places) (place_at g.K.Ord.cmp l.places) (λ k p. HasTurned l.fn.done.items k p ⊎ HasItem l.fn.rest.items k p) (λ k p. HasTurned l.turned-iterator.rest.items k p ⊎ HasItem l.rest.items k p);
  entered : Enters (place_at g.K.Ord.cmp l.fn.places) (place_at g.K.Ord.cmp l.places) l.fn.fresh.items l.fresh.items;
  left : (a : Turned _ _) → Contains l.turned-iterator.rest.items a → Contains l.fn.done.items a;
}
