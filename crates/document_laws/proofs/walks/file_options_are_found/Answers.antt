use Rattle.document_laws.proofs.FileOptionLemmas.{file_found, file_states}
use Rattle.document_laws.proofs.walks.file_options_are_found.Goals as goal

pub returns-clause-found : goal.returns-clause-found
returns-clause-found c = file_found

pub returns-clause-only : goal.returns-clause-only
returns-clause-only c = file_states
