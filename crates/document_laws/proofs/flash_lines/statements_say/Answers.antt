use Rattle.document_laws.proofs.VolumeForms.{apriori_says, inf_says, file_says, inf_member_says, member_says}
use Rattle.document_laws.proofs.flash_lines.statements_say.Goals as goal

pub returns-clause-aprioris : goal.returns-clause-aprioris
returns-clause-aprioris c = apriori_says

pub returns-clause-modules : goal.returns-clause-modules
returns-clause-modules c = inf_says

pub returns-clause-files : goal.returns-clause-files
returns-clause-files c = file_says

pub returns-clause-module_members : goal.returns-clause-module_members
returns-clause-module_members c = inf_member_says

pub returns-clause-file_members : goal.returns-clause-file_members
returns-clause-file_members c = member_says
