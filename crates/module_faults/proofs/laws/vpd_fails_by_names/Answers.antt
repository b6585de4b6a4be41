use Rattle.module_faults.proofs.VpdLemmas.{vpd_fails}
use Rattle.module_faults.proofs.laws.vpd_fails_by_names.Goals as goal

pub returns : goal.returns
returns c = vpd_fails
