use Rattle.volume_laws.proofs.ModuleLemmas.{content_moved}
use Rattle.volume_laws.proofs.laws.content_is_moved.Goals as goal

pub returns : goal.returns
returns c = content_moved
