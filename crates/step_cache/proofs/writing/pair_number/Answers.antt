use Rattle.step_cache.proofs.KnownLemmas.{noted_is, noted_text}
use Rattle.step_cache.proofs.writing.pair_number.Goals as goal

pub returns-in-Some-clause-pool : goal.returns-in-Some-clause-pool
returns-in-Some-clause-pool c =
    noted_text c.args.cache.now c.args.pool.now c.args.known.now c.args.pair.now c.in-Some.number c.requires.noted c.requires.among c.in-Some.ensures

pub returns-in-Some-clause-number : goal.returns-in-Some-clause-number
returns-in-Some-clause-number c =
    noted_is c.args.cache.now c.args.pool.now c.args.known.now c.args.pair.now c.in-Some.number c.requires.noted c.requires.among c.in-Some.ensures
