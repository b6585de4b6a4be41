use Rattle.document_laws.proofs.VolumeForms.{setting_says, name_says, system_says, force_says, attribute_says}
use Rattle.document_laws.proofs.flash_lines.volume_keys_say.Goals as goal

pub returns-clause-numbers : goal.returns-clause-numbers
returns-clause-numbers c = setting_says

pub returns-clause-names : goal.returns-clause-names
returns-clause-names c = name_says

pub returns-clause-systems : goal.returns-clause-systems
returns-clause-systems c = system_says

pub returns-clause-forced : goal.returns-clause-forced
returns-clause-forced c = force_says

pub returns-clause-attributes : goal.returns-clause-attributes
returns-clause-attributes c = attribute_says
