use Rattle.macro_conditions.proofs.TreeWritten.{written_tree}
use Rattle.macro_conditions.proofs.laws.tree_is_whole.Goals as goal

pub returns : goal.returns
returns c = written_tree
