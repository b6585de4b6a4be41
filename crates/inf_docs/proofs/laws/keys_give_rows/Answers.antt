use Rattle.inf_docs.proofs.GivenLemmas.{value_given}
use Rattle.inf_docs.proofs.laws.keys_give_rows.Goals as goal

pub returns : goal.returns
returns c = value_given
