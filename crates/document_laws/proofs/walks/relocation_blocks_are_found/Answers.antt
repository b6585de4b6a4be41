use Rattle.document_laws.proofs.RelocationLemmas.{blocks_found, blocks_only}
use Rattle.document_laws.proofs.walks.relocation_blocks_are_found.Goals as goal

pub returns-clause-found : goal.returns-clause-found
returns-clause-found c = blocks_found

pub returns-clause-only : goal.returns-clause-only
returns-clause-only c = blocks_only
