use Rattle.volume_reader.proofs.WrittenLemmas.{written_head, written_found, written_listed}
use Rattle.volume_reader.proofs.laws.written_is_read.Goals as goal

pub returns-clause-head : goal.returns-clause-head
returns-clause-head c = written_head

pub returns-clause-found : goal.returns-clause-found
returns-clause-found c = written_found

pub returns-clause-list : goal.returns-clause-list
returns-clause-list c = written_listed
