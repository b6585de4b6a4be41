use Rattle.std.proofs.Common.{rules}
use Rattle.step_cache.proofs.KnownLemmas.{talk_among, noted_with}
use Rattle.step_cache.proofs.NumberLemmas.{entry_pool, entry_numbered}
use Rattle.packed_outcomes.specs.Talk.{outcome_encoding}
use Rattle.step_cache.proofs.writing.numbered_entry.Goals as goal

pub returns-clause-pool : goal.returns-clause-pool
returns-clause-pool c =
    entry_pool c.args.pool.now c.numbered_batches.new.pool c.result_number.new.pool c.args.entry.now (search rules) (search rules)

pub returns-clause-numbered : goal.returns-clause-numbered
returns-clause-numbered c =
    entry_numbered c.args.pool.now c.numbered_batches.new.pool c.result_number.new.pool c.args.entry.now c.in_ok-key.key c.in_ok-batches.batches c.in_ok-result.result
    (search rules) (search rules) (search rules) (search rules) (search rules)

pub numbered_batches-requires-clause-among : goal.numbered_batches-requires-clause-among
numbered_batches-requires-clause-among c = talk_among c.args.cache.now c.args.entry.now _ c.requires.among (search rules)

pub returns-clause-noted : goal.returns-clause-noted
returns-clause-noted c =
    noted_with c.args.cache.now c.numbered_batches.new.pool c.result_number.new.pool (outcome_encoding.encode c.args.entry.now.result) c.numbered_batches.new.known
    (search rules) (search rules)
