use Rattle.build_faults.proofs.BuildFaults.{steps_fail_by_name}
use Rattle.build_faults.proofs.laws.steps_fail_by_name.Goals as goal

pub returns : goal.returns
returns c = steps_fail_by_name
