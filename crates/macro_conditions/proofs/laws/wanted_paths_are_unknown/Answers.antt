use Rattle.macro_conditions.proofs.WantedPaths.{wanted_unknown}
use Rattle.macro_conditions.proofs.laws.wanted_paths_are_unknown.Goals as goal

pub returns : goal.returns
returns c = wanted_unknown
