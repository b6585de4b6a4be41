use Rattle.dsc_lines.proofs.GivenLemmas.{key_given}
use Rattle.dsc_lines.proofs.laws.keys_give_rows.Goals as goal

pub returns : goal.returns
returns c = key_given
