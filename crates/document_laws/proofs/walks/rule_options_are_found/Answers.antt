use Rattle.document_laws.proofs.RuleOptionLemmas.{rule_found, rule_states}
use Rattle.document_laws.proofs.walks.rule_options_are_found.Goals as goal

pub returns-clause-found : goal.returns-clause-found
returns-clause-found c = rule_found

pub returns-clause-only : goal.returns-clause-only
returns-clause-only c = rule_states
