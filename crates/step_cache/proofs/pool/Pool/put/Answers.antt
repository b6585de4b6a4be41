use Rattle.step_cache.proofs.PoolTextLemmas.{no_texts}
use Rattle.step_cache.proofs.pool.Pool.put.Goals as goal

pub invariant_of-self-in-Err : goal.invariant_of-self-in-Err
invariant_of-self-in-Err g c =
    rw (c.clear.ensures.items, c.clear-in-Err.ensures.items) (no_texts c.clear-in-Err-2.new.self c.clear-in-Err-2.ensures.empty)
