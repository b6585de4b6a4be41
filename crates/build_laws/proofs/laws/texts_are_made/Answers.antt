-- What the step of a module's texts gives.
use Rattle.build_laws.proofs.TextLemmas.{code_is}
use Rattle.build_laws.proofs.laws.texts_are_made.Goals as goal

pub returns : goal.returns
returns c = code_is
