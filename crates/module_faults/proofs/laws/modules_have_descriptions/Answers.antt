use Rattle.module_faults.proofs.TextLemmas.{module_own}
use Rattle.module_faults.proofs.laws.modules_have_descriptions.Goals as goal

pub returns : goal.returns
returns c = module_own
