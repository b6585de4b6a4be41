-- What a module's step gives.
use Rattle.build_rules.proofs.ValueLemmas.{inf_is}
use Rattle.build_laws.proofs.laws.modules_are_read.Goals as goal

pub returns : goal.returns
returns c = inf_is
