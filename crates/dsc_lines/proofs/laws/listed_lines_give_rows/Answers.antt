use Rattle.dsc_lines.proofs.GivenLemmas.{listed_given}
use Rattle.dsc_lines.proofs.laws.listed_lines_give_rows.Goals as goal

pub returns : goal.returns
returns c = listed_given
