-- What a package's step gives.
use Rattle.build_rules.proofs.ValueLemmas.{dec_is}
use Rattle.build_laws.proofs.laws.packages_are_read.Goals as goal

pub returns : goal.returns
returns c = dec_is
