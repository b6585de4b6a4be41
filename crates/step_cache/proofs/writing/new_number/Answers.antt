use Rattle.std.proofs.Common.{rules}
use Rattle.step_cache.proofs.KnownLemmas.{given_number, noted_new}
use Rattle.step_cache.proofs.writing.new_number.Goals as goal

pub returns-clause-number : goal.returns-clause-number
returns-clause-number c =
    given_number c.args.pool.now c.answer_number.new.pool c.args.pair.now c.in_ok-number.number (search rules) (search rules) (search rules)

pub returns-clause-noted : goal.returns-clause-noted
returns-clause-noted c =
    noted_new c.args.cache.now c.args.pair.now c.in_ok-number.number c.args.pool.now c.answer_number.new.pool c.args.known.now c.note_number.new.known
    (search rules) c.requires.among (search rules) (search rules) (search rules) c.requires.noted
