use Rattle.document_laws.proofs.DeviceForms.{number_says, region_says, pcds_says, content_says}
use Rattle.document_laws.proofs.flash_lines.device_lines_say.Goals as goal

pub returns-clause-numbers : goal.returns-clause-numbers
returns-clause-numbers c = number_says

pub returns-clause-regions : goal.returns-clause-regions
returns-clause-regions c = region_says

pub returns-clause-pcds : goal.returns-clause-pcds
returns-clause-pcds c = pcds_says

pub returns-clause-contents : goal.returns-clause-contents
returns-clause-contents c = content_says
