use Rattle.volume_reader.proofs.WrittenLemmas.{read_as}
use Rattle.volume_reader.proofs.volume.read_volume.Goals as goal

pub returns-clause-written : goal.returns-clause-written
returns-clause-written c = read_as c.read_list.result c.args.bytes.now c.read_list.ensures.value
