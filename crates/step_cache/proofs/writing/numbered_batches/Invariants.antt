use Rattle.std.proofs.Common.{◌≡◌, map, take, true}
use Rattle.std.specs.List.{flat_map, list_all}
use Rattle.step_cache.specs.CacheText.{numbered_batch, batch_texts, batch_is_value}
use Rattle.step_cache.specs.Known.{AreNoted}
use Rattle.step_cache.specs.Pools.{with_texts}
use Rattle.step_cache.proofs.writing.numbered_batches.Given as goal

abbrev pub invariant-loop-batch : goal.invariant-loop-batch
invariant-loop-batch l = record {
  pool : l.pool ≡ with_texts l.fn.pool (flat_map batch_texts (take l.batch-index l.batches));
  rows : l.rows ≡ map (numbered_batch l.pool) (take l.batch-index l.batches);
  noted : AreNoted l.cache l.pool l.known;
  values : list_all batch_is_value (take l.batch-index l.batches) ≡ true;
}
