-- What the step of a module's dependency expression gives.
use Rattle.build_laws.proofs.TextLemmas.{depex_is}
use Rattle.build_laws.proofs.laws.expressions_are_compiled.Goals as goal

pub returns : goal.returns
returns c = depex_is
