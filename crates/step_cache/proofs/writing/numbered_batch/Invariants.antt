use Rattle.std.proofs.Common.{◌≡◌, map, take, true}
use Rattle.std.specs.List.{flat_map, list_all}
use Rattle.step_cache.specs.CacheText.{numbered_pair, pair_texts, pair_is_value}
use Rattle.step_cache.specs.Known.{AreNoted}
use Rattle.step_cache.specs.Pools.{with_texts}
use Rattle.step_cache.proofs.writing.numbered_batch.Given as goal

abbrev pub invariant-loop-pair : goal.invariant-loop-pair
invariant-loop-pair l = record {
  pool : l.pool ≡ with_texts l.fn.pool (flat_map pair_texts (take l.pair-index l.pair-items));
  rows : l.rows ≡ map (numbered_pair l.pool) (take l.pair-index l.pair-items);
  noted : AreNoted l.cache l.pool l.known;
  values : list_all pair_is_value (take l.pair-index l.pair-items) ≡ true;
}
