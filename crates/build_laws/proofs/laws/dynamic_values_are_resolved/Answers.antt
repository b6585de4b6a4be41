-- What the step of dynamic PCDs gives.
use Rattle.build_laws.proofs.PcdValues.{pcds_is}
use Rattle.build_laws.proofs.laws.dynamic_values_are_resolved.Goals as goal

pub returns : goal.returns
returns c = pcds_is
