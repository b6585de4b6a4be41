-- What a build of an older edition left.
use Rattle.edk_build.proofs.KeptLemmas.{older_prefix}
use Rattle.edk_build.proofs.laws.older_texts_are_adopted.Goals as goal

pub returns : goal.returns
returns c = older_prefix
