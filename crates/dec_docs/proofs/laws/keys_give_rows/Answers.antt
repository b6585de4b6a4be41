use Rattle.dec_docs.proofs.GivenLemmas.{key_given}
use Rattle.dec_docs.proofs.laws.keys_give_rows.Goals as goal

pub returns : goal.returns
returns c = key_given
