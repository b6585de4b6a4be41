-- Keys are the same where they compare equal.
use Rattle.step_pack.proofs.KeyLemmas.{same_by_order}
use Rattle.step_pack.proofs.key.KeyPartialEq.eq.Goals as goal

pub returns : goal.returns
returns c = same_by_order c.args.self.now c.args.other.now c.same.result c.same.ensures
