use Rattle.volume_laws.proofs.HoldsLemmas.{list_read, holds_one, wrong_read}
use Rattle.volume_laws.proofs.laws.files_are_read.Goals as goal

pub returns-clause-list : goal.returns-clause-list
returns-clause-list c = list_read

pub returns-clause-one : goal.returns-clause-one
returns-clause-one c = holds_one

pub returns-clause-wrong : goal.returns-clause-wrong
returns-clause-wrong c = wrong_read
