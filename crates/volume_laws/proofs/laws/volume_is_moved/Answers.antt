use Rattle.volume_laws.proofs.MovedVolumeLemmas.{volume_moved}
use Rattle.volume_laws.proofs.laws.volume_is_moved.Goals as goal

pub returns : goal.returns
returns c = volume_moved
