use Rattle.vpd_laws.proofs.ReadLemmas.{entries_placed, values_read}
use Rattle.vpd_laws.proofs.laws.values_are_read.Goals as goal

pub returns-clause-entries : goal.returns-clause-entries
returns-clause-entries c = entries_placed

pub returns-clause-read : goal.returns-clause-read
returns-clause-read c = values_read
