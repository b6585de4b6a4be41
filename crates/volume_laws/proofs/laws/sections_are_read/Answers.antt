use Rattle.volume_laws.proofs.ListLemmas.{sections_read, sections_one}
use Rattle.volume_laws.proofs.laws.sections_are_read.Goals as goal

pub returns-clause-list : goal.returns-clause-list
returns-clause-list c = sections_read

pub returns-clause-one : goal.returns-clause-one
returns-clause-one c = sections_one
