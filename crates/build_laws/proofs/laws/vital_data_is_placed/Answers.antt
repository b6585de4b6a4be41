-- What the step of vital product data gives.
use Rattle.build_laws.proofs.VpdLemmas.{vpd_is}
use Rattle.build_laws.proofs.laws.vital_data_is_placed.Goals as goal

pub returns : goal.returns
returns c = vpd_is
