-- What an item's step gives.
use Rattle.build_laws.proofs.VolumeValues.{file_is}
use Rattle.build_laws.proofs.laws.files_are_made.Goals as goal

pub returns : goal.returns
returns c = file_is
