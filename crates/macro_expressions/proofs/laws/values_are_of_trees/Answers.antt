use Rattle.macro_expressions.proofs.ExpressionMeaning.{value_is}
use Rattle.macro_expressions.proofs.laws.values_are_of_trees.Goals as goal

pub returns : goal.returns
returns c = value_is
