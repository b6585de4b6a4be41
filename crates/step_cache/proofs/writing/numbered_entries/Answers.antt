use Rattle.std.proofs.Common.{rules, arith, take, ◌+◌, ◌≡◌, ◌++◌, ◌∷◌, [], List, Contains, subst}
use Rattle.std.proofs.lemmas.Grind.{common_steps}
use Rattle.packed_values.proofs.RowsLemmas.{all-push}
use Rattle.step_cache.specs.CacheText.{numbered, entry_texts, entry_is_value}
use Rattle.step_engine.specs.declared.talk.Entry.{Entry}
use Rattle.step_pack.specs.declared.key.Key.{Key}
use Rattle.step_pack.specs.declared.out.Out.{Out}
use Rattle.step_cache.proofs.KnownLemmas.{item_in}
use Rattle.step_cache.proofs.NumberLemmas.{pool_step, rows_step, entry_stays}
use Rattle.step_cache.proofs.writing.numbered_entries.Goals as goal

pub numbered_entry-requires-clause-among : goal.numbered_entry-requires-clause-among
numbered_entry-requires-clause-among c =
    subst (λ (es : List (Entry Key Out)). Contains es c.entry-item.result) c.entries-entry-items.ensures.all (item_in c.entries-entry-items.result.now c.loop-entry.entry-index c.entry-item.result (search rules) (search rules))

pub loop-entry-preserved : goal.loop-entry-preserved
loop-entry-preserved c =
    let i = c.loop-entry.invariant in
    let xs = c.entries-entry-items.result.now in
    let x = c.entry-item.result in
    let done = take c.loop-entry.entry-index xs in
    let more : take (c.loop-entry.entry-index + 1) xs ≡ done ++ x ∷ [] = grind (arith, common_steps) in
    rw (more, c.in_ok-push.ensures.ok) record {
      pool = pool_step numbered entry_texts c.args.pool.now c.loop-entry.pool c.numbered_entry.new.pool done x i.pool c.in_ok-number.ensures.pool;
      rows = rows_step numbered entry_texts c.args.pool.now c.loop-entry.pool c.numbered_entry.new.pool done x i.pool c.in_ok-number.ensures.pool entry_stays c.loop-entry.rows c.in_ok-number.number i.rows (search rules);
      noted = c.in_ok-number.ensures.noted;
      values = all-push entry_is_value done x i.values (search rules);
    }
