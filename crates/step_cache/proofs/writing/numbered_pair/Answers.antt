use Rattle.std.proofs.Common.{rules}
use Rattle.step_cache.proofs.KnownLemmas.{known_pair}
use Rattle.step_cache.proofs.writing.numbered_pair.Goals as goal

pub returns-clause-asked : goal.returns-clause-asked
returns-clause-asked c =
    known_pair c.pair_number.new.pool c.args.pair.now c.in_ok-number.number c.in_ok-ask.ask (search rules) (search rules)
