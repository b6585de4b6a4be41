use Rattle.document_laws.proofs.DeviceForms.{set_says, passed_says}
use Rattle.document_laws.proofs.flash_lines.set_lines_say.Goals as goal

pub returns-clause-sets : goal.returns-clause-sets
returns-clause-sets c = set_says

pub returns-clause-passed : goal.returns-clause-passed
returns-clause-passed c = passed_says
