-- The first pairs are gone through.
use Rattle.std.proofs.Common.{Contains}
use Rattle.step_engine.specs.Meaning.{asks_of}
use Rattle.step_engine.specs.Table.{place_at}
use Rattle.step_engine.specs.Wanting.{ArePartsOf}
use Rattle.step_engine.specs.Forward.{Wants}
use Rattle.step_engine.proofs.WantedLemmas.{PartAt}
use Rattle.step_engine.proofs.wanted.want_pairs.Given as goal

abbrev pub invariant-loop-pair : goal.invariant-loop-pair
invariant-loop-pair g l = record {
  among : (k : _) → Contains l.wanted.items k → ArePartsOf (asks_of l.fn.pairs) l.fn.wanted.items k;
  all : Wants g.R.Rules.means.rank (place_at g.R.Key.Ord.cmp l.places) l.key (PartAt (asks_of l.fn.pairs) l.pair-index) l.fn.wanted.items l.wanted.items;
}
