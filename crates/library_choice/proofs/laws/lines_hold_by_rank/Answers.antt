use Rattle.library_choice.specs.Lines.{weight}
use Rattle.build_base.proofs.BestLemmas.{best-greatest}
use Rattle.library_choice.proofs.laws.lines_hold_by_rank.Goals as goal

pub returns : goal.returns
returns c = λ user own class lines. best-greatest (weight user own class) lines
