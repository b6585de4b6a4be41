use Rattle.dec_docs.proofs.GivenLemmas.{listed_given}
use Rattle.dec_docs.proofs.laws.listed_lines_give_rows.Goals as goal

pub returns : goal.returns
returns c = listed_given
