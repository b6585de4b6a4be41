use Rattle.edk_build.proofs.LawLemmas.{all_right}
use Rattle.edk_build.proofs.laws.runs_are_right.Goals as goal

pub returns : goal.returns
returns c = all_right
