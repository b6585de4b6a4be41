use Rattle.dsc_lines.proofs.GivenLemmas.{component_given}
use Rattle.dsc_lines.proofs.laws.component_lines_give_rows.Goals as goal

pub returns : goal.returns
returns c = component_given
