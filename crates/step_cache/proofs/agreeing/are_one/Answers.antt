-- All numbers were noted.
use Rattle.step_cache.proofs.AgreementLemmas.{one_each}
use Rattle.step_cache.proofs.agreeing.are_one.Goals as goal

pub returns : goal.returns
returns c = λ yes. one_each c.args.entries.now _ _ (c.in_ok-yes.ensures yes)
