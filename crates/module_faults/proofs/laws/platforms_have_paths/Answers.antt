use Rattle.module_faults.proofs.PlatformLemmas.{platform_fits, modules_fit}
use Rattle.module_faults.proofs.laws.platforms_have_paths.Goals as goal

pub returns-clause-output : goal.returns-clause-output
returns-clause-output c = λ lines platform e. (platform_fits lines platform e).output

pub returns-clause-modules : goal.returns-clause-modules
returns-clause-modules c = λ lines platform arches modules e b. modules_fit platform arches modules (platform_fits lines platform e) b
