use Rattle.std.proofs.Common.{rules, arith, take, ◌+◌, ◌≡◌, ◌++◌, ◌∷◌, []}
use Rattle.std.proofs.lemmas.Grind.{common_steps}
use Rattle.packed_values.proofs.RowsLemmas.{all-push}
use Rattle.step_cache.specs.CacheText.{numbered_pair, pair_texts, pair_is_value}
use Rattle.step_cache.proofs.KnownLemmas.{among_at}
use Rattle.step_cache.proofs.NumberLemmas.{pool_step, rows_step, pair_stays}
use Rattle.step_cache.proofs.writing.numbered_batch.Goals as goal

pub numbered_pair-requires-clause-among : goal.numbered_pair-requires-clause-among
numbered_pair-requires-clause-among c =
    among_at c.args.cache.now c.args.batch.now.pairs c.items-pair-items.result.now c.loop-pair.pair-index c.pair-item.result c.requires.among (search rules) (search rules) (search rules)

pub loop-pair-preserved : goal.loop-pair-preserved
loop-pair-preserved c =
    let i = c.loop-pair.invariant in
    let xs = c.items-pair-items.result.now in
    let x = c.pair-item.result in
    let done = take c.loop-pair.pair-index xs in
    let more : take (c.loop-pair.pair-index + 1) xs ≡ done ++ x ∷ [] = grind (arith, common_steps) in
    rw (more, c.in_ok-push.ensures.ok) record {
      pool = pool_step numbered_pair pair_texts c.args.pool.now c.loop-pair.pool c.numbered_pair.new.pool done x i.pool c.in_ok-asked.ensures.pool;
      rows = rows_step numbered_pair pair_texts c.args.pool.now c.loop-pair.pool c.numbered_pair.new.pool done x i.pool c.in_ok-asked.ensures.pool pair_stays c.loop-pair.rows c.in_ok-asked.asked i.rows (search rules);
      noted = c.in_ok-asked.ensures.noted;
      values = all-push pair_is_value done x i.values (search rules);
    }
