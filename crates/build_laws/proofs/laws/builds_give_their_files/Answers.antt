-- What the whole build gives.
use Rattle.build_laws.proofs.BuildValues.{all_is}
use Rattle.build_laws.proofs.laws.builds_give_their_files.Goals as goal

pub returns : goal.returns
returns c = all_is
