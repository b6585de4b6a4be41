use Rattle.document_laws.proofs.TokenPieceLemmas.{tokens_found, tokens_only}
use Rattle.document_laws.proofs.walks.tokens_are_found.Goals as goal

pub returns-clause-found : goal.returns-clause-found
returns-clause-found c = tokens_found

pub returns-clause-only : goal.returns-clause-only
returns-clause-only c = tokens_only
