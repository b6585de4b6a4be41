use Rattle.document_laws.proofs.OptionLemmas.{inf_found, inf_states}
use Rattle.document_laws.proofs.walks.module_options_are_found.Goals as goal

pub returns-clause-found : goal.returns-clause-found
returns-clause-found c = inf_found

pub returns-clause-only : goal.returns-clause-only
returns-clause-only c = inf_states
