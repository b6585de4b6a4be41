use Rattle.macro_conditions.proofs.LeftFalls.{left_falls}
use Rattle.macro_conditions.proofs.laws.answers_make_less_left.Goals as goal

pub returns : goal.returns
returns c = left_falls
