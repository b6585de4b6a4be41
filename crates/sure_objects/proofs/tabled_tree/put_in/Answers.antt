-- One more file.
use Rattle.sure_objects.proofs.TableLemmas.{put_found}
use Rattle.sure_objects.proofs.tabled_tree.put_in.Goals as goal

pub returns-in-Ok-clause-ok : goal.returns-in-Ok-clause-ok
returns-in-Ok-clause-ok c = put_found c.args.files.now c.insert.new.self c.args.path c.args.bytes c.in-Ok.ensures.updates
