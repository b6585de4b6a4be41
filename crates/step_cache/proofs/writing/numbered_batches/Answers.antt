use Rattle.std.proofs.Common.{rules, arith, take, ◌+◌, ◌≡◌, ◌++◌, ◌∷◌, []}
use Rattle.std.proofs.lemmas.Grind.{common_steps}
use Rattle.packed_values.proofs.RowsLemmas.{all-push}
use Rattle.step_cache.specs.CacheText.{numbered_batch, batch_texts, batch_is_value}
use Rattle.step_cache.proofs.KnownLemmas.{item_in}
use Rattle.step_cache.proofs.NumberLemmas.{pool_step, rows_step, batch_stays}
use Rattle.step_cache.proofs.writing.numbered_batches.Goals as goal

pub numbered_batch-requires-clause-among : goal.numbered_batch-requires-clause-among
numbered_batch-requires-clause-among c =
    c.requires.among c.batch-item.result (item_in c.args.batches.now c.loop-batch.batch-index c.batch-item.result (search rules) (search rules))

pub loop-batch-preserved : goal.loop-batch-preserved
loop-batch-preserved c =
    let i = c.loop-batch.invariant in
    let xs = c.args.batches.now in
    let x = c.batch-item.result in
    let done = take c.loop-batch.batch-index xs in
    let more : take (c.loop-batch.batch-index + 1) xs ≡ done ++ x ∷ [] = grind (arith, common_steps) in
    rw (more, c.in_ok-push.ensures.ok) record {
      pool = pool_step numbered_batch batch_texts c.args.pool.now c.loop-batch.pool c.numbered_batch.new.pool done x i.pool c.in_ok-asked.ensures.pool;
      rows = rows_step numbered_batch batch_texts c.args.pool.now c.loop-batch.pool c.numbered_batch.new.pool done x i.pool c.in_ok-asked.ensures.pool batch_stays c.loop-batch.rows c.in_ok-asked.asked i.rows (search rules);
      noted = c.in_ok-asked.ensures.noted;
      values = all-push batch_is_value done x i.values (search rules);
    }
