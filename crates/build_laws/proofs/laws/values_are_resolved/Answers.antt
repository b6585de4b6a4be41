-- What the step of a module's values gives.
use Rattle.build_laws.proofs.PcdValues.{values_is}
use Rattle.build_laws.proofs.laws.values_are_resolved.Goals as goal

pub returns : goal.returns
returns c = values_is
