use Rattle.document_laws.proofs.MacroLemmas.{replaced_found, replaced_only}
use Rattle.document_laws.proofs.walks.replaced_texts_are_of_parts.Goals as goal

pub returns-clause-found : goal.returns-clause-found
returns-clause-found c = replaced_found

pub returns-clause-only : goal.returns-clause-only
returns-clause-only c = replaced_only
