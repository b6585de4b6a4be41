use Rattle.document_laws.proofs.RuleForms.{file_says, rule_path_says, rule_extension_says, rule_text_says, rule_closes}
use Rattle.document_laws.proofs.flash_lines.rule_lines_say.Goals as goal

pub returns-clause-files : goal.returns-clause-files
returns-clause-files c = file_says

pub returns-clause-paths : goal.returns-clause-paths
returns-clause-paths c = rule_path_says

pub returns-clause-extensions : goal.returns-clause-extensions
returns-clause-extensions c = rule_extension_says

pub returns-clause-texts : goal.returns-clause-texts
returns-clause-texts c = rule_text_says

pub returns-clause-closed : goal.returns-clause-closed
returns-clause-closed c = rule_closes
