use Rattle.volume_laws.proofs.MovedLemmas.{moved_listed}
use Rattle.volume_laws.proofs.laws.moved_is_read_as_it_was.Goals as goal

pub returns : goal.returns
returns c = moved_listed
