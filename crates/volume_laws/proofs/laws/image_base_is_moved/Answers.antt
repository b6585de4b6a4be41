use Rattle.volume_laws.proofs.BaseLemmas.{pe_base_moved, te_base_moved}
use Rattle.volume_laws.proofs.laws.image_base_is_moved.Goals as goal

pub returns-clause-pe : goal.returns-clause-pe
returns-clause-pe c = pe_base_moved

pub returns-clause-te : goal.returns-clause-te
returns-clause-te c = te_base_moved
