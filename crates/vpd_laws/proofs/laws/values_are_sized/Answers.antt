use Rattle.vpd_laws.proofs.RowLemmas.{values_sized, module_sized}
use Rattle.vpd_laws.proofs.laws.values_are_sized.Goals as goal

pub returns-clause-platform : goal.returns-clause-platform
returns-clause-platform c = values_sized

pub returns-clause-modules : goal.returns-clause-modules
returns-clause-modules c = module_sized
