use Rattle.volume_laws.proofs.MovedLemmas.{moved_read}
use Rattle.volume_laws.proofs.laws.moved_is_read.Goals as goal

pub returns : goal.returns
returns c = moved_read
