use Rattle.module_faults.proofs.FolderLemmas.{folder_fails, folder_short}
use Rattle.module_faults.proofs.laws.folders_fail_by_names.Goals as goal

pub returns-clause-folder : goal.returns-clause-folder
returns-clause-folder c = folder_fails

pub returns-clause-short : goal.returns-clause-short
returns-clause-short c = folder_short
