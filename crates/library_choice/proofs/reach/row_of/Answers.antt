use Rattle.std.proofs.Common.{◌∙◌}
use Rattle.library_choice.proofs.LedLemmas.{row-led}
use Rattle.library_choice.proofs.reach.row_of.Goals as goal

pub returns : goal.returns
returns c = c.in_ok-row.ensures ∙ row-led c.args.nexts.now c.args.from c.in_ok-passed.passed c.in_ok-passed.ensures c.args.places.now
