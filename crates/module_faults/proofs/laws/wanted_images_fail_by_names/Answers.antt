use Rattle.module_faults.proofs.OutputLemmas.{wanted_fails}
use Rattle.module_faults.proofs.laws.wanted_images_fail_by_names.Goals as goal

pub returns : goal.returns
returns c = wanted_fails
