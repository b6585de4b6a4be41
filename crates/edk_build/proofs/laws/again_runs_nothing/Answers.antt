use Rattle.edk_build.proofs.LawLemmas.{again_nothing}
use Rattle.edk_build.proofs.laws.again_runs_nothing.Goals as goal

pub returns : goal.returns
returns c = again_nothing
