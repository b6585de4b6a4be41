use Rattle.step_cache.proofs.PoolTextLemmas.{no_texts}
use Rattle.step_cache.proofs.pool.Pool.new.Goals as goal

pub invariant_of-result : goal.invariant_of-result
invariant_of-result c = rw (c.new.ensures.items, c.new-2.ensures.items) (no_texts c.new-3.result c.new-3.ensures.empty)
