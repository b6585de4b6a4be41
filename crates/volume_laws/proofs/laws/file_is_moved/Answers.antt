use Rattle.volume_laws.proofs.MovedFileLemmas.{file_moved}
use Rattle.volume_laws.proofs.laws.file_is_moved.Goals as goal

pub returns : goal.returns
returns c = file_moved
