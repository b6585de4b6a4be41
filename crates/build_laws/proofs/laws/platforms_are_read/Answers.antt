-- What the platform's step gives.
use Rattle.build_rules.proofs.ValueLemmas.{platform_is}
use Rattle.build_laws.proofs.laws.platforms_are_read.Goals as goal

pub returns : goal.returns
returns c = platform_is
