-- What the step of a moved volume gives.
use Rattle.build_laws.proofs.VolumeValues.{based_is}
use Rattle.build_laws.proofs.laws.volumes_are_moved.Goals as goal

pub returns : goal.returns
returns c = based_is
