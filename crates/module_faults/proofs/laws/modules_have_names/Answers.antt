use Rattle.module_faults.proofs.InfLemmas.{module_name}
use Rattle.module_faults.proofs.laws.modules_have_names.Goals as goal

pub returns : goal.returns
returns c = module_name
