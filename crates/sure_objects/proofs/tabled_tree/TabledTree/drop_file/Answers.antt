-- One file less.
use Rattle.sure_objects.proofs.TableLemmas.{dropped_found}
use Rattle.sure_objects.proofs.tabled_tree.TabledTree.drop_file.Goals as goal

pub returns-clause-held : goal.returns-clause-held
returns-clause-held c = dropped_found c.args.self.now.files c.remove.new.self c.args.path.now c.remove.ensures.updates
