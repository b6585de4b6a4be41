use Rattle.module_faults.proofs.LibraryLemmas.{choice_fails}
use Rattle.module_faults.proofs.laws.libraries_fail_by_names.Goals as goal

pub returns : goal.returns
returns c = choice_fails
