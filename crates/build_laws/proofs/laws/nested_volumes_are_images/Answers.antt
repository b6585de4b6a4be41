-- What a section that holds a volume holds.
use Rattle.build_laws.proofs.DeviceValues.{nested_is}
use Rattle.build_laws.proofs.laws.nested_volumes_are_images.Goals as goal

pub returns : goal.returns
returns c = nested_is
