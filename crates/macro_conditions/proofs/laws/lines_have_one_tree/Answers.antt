use Rattle.macro_conditions.proofs.TreeStands.{lines_have_tree}
use Rattle.macro_conditions.proofs.TreeIsOne.{lines_have_one_tree}
use Rattle.macro_conditions.proofs.laws.lines_have_one_tree.Goals as goal

pub returns-clause-found : goal.returns-clause-found
returns-clause-found c = lines_have_tree

pub returns-clause-only : goal.returns-clause-only
returns-clause-only c = lines_have_one_tree
