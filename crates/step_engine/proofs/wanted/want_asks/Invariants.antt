-- The first asks are gone through.
use Rattle.std.proofs.Common.{Contains}
use Rattle.step_engine.specs.Table.{place_at}
use Rattle.step_engine.specs.Wanting.{ArePartsOf}
use Rattle.step_engine.specs.Forward.{Wants}
use Rattle.step_engine.proofs.WantedLemmas.{PartAt}
use Rattle.step_engine.proofs.wanted.want_asks.Given as goal

abbrev pub invariant-loop-ask : goal.invariant-loop-ask
invariant-loop-ask g l = record {
  among : (k : _) → Contains l.wanted.items k → ArePartsOf l.fn.asks l.fn.wanted.items k;
  all : Wants g.R.Rules.means.rank (place_at g.R.Key.Ord.cmp l.places) l.key (PartAt l.fn.asks l.ask-index) l.fn.wanted.items l.wanted.items;
}
