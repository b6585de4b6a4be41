-- The first keys are opened.
use Rattle.step_engine.specs.Table.{place_at}
use Rattle.step_engine.specs.Opening.{Opens}
use Rattle.step_engine.specs.Forward.{AreOpened}
use Rattle.step_engine.proofs.OpenedLemmas.{MetTo}
use Rattle.step_engine.proofs.open.open_all.Given as goal

abbrev pub invariant-loop-key : goal.invariant-loop-key
invariant-loop-key g l = record {
  here : Opens l.fn.keys.items l.fn.old l.fn.book (place_at g.K.Ord.cmp l.fn.places) l.book (place_at g.K.Ord.cmp l.places) l.items.items;
  opened : AreOpened (place_at g.K.Ord.cmp l.fn.places) (place_at g.K.Ord.cmp l.places) l.items.items;
  met : MetTo (place_at g.K.Ord.cmp l.places) l.fn.keys.items l.key-index;
}
