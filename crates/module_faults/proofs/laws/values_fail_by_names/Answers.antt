use Rattle.module_faults.proofs.PcdLemmas.{platform_fails, module_fails}
use Rattle.module_faults.proofs.laws.values_fail_by_names.Goals as goal

pub returns-clause-platform : goal.returns-clause-platform
returns-clause-platform c = platform_fails

pub returns-clause-modules : goal.returns-clause-modules
returns-clause-modules c = module_fails
