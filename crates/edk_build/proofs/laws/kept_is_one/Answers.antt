use Rattle.edk_build.proofs.KeptLemmas.{sound_prefix}
use Rattle.edk_build.proofs.LawLemmas.{one_cache, sound_nothing, sound_no_text}
use Rattle.edk_build.proofs.laws.kept_is_one.Goals as goal

pub returns-clause-one : goal.returns-clause-one
returns-clause-one c = one_cache

pub returns-clause-nothing : goal.returns-clause-nothing
returns-clause-nothing c = sound_nothing

pub returns-clause-no_text : goal.returns-clause-no_text
returns-clause-no_text c = sound_no_text

pub returns-clause-prefix : goal.returns-clause-prefix
returns-clause-prefix c = sound_prefix
