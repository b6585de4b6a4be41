use Rattle.document_laws.proofs.RelocationLemmas.{entries_found, entries_only}
use Rattle.document_laws.proofs.walks.relocation_entries_are_words.Goals as goal

pub returns-clause-found : goal.returns-clause-found
returns-clause-found c = entries_found

pub returns-clause-only : goal.returns-clause-only
returns-clause-only c = entries_only
