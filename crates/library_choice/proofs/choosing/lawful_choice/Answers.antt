use Rattle.library_choice.proofs.LawLemmas.{lawful}
use Rattle.library_choice.proofs.choosing.lawful_choice.Goals as goal

pub checked_choice-requires : goal.checked_choice-requires
checked_choice-requires c = record { whole = record { closed = c.requires.2; few = c.requires.1 } }

pub returns-clause-laws : goal.returns-clause-laws
returns-clause-laws c = lawful c.args.tables.now c.args.inf.now c.args.found.now c.requires
