-- What the step of a module's libraries gives.
use Rattle.build_laws.proofs.ChoiceValues.{choice_is}
use Rattle.build_laws.proofs.laws.libraries_are_chosen.Goals as goal

pub returns : goal.returns
returns c = choice_is
