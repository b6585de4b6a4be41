-- What the flash description's step gives.
use Rattle.build_laws.proofs.ImageValues.{flash_is}
use Rattle.build_laws.proofs.laws.flash_descriptions_are_read.Goals as goal

pub returns : goal.returns
returns c = flash_is
