-- What a volume's step gives.
use Rattle.build_laws.proofs.VolumeValues.{volume_is}
use Rattle.build_laws.proofs.laws.volumes_are_made.Goals as goal

pub returns : goal.returns
returns c = volume_is
