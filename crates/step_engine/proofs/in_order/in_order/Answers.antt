-- The entries in order.
use Rattle.step_engine.proofs.Ending.{same_permuted, one_permuted, agree_permuted}
use Rattle.step_engine.proofs.in_order.in_order.Goals as goal

pub agreeing-requires-after_bounds : goal.agreeing-requires-after_bounds
agreeing-requires-after_bounds g c = λ κs q is. agree_permuted _ _ _ c.in_ok-entries.ensures c.in_ok-cache.ensures.only (c.requires is)

pub returns-clause-same : goal.returns-clause-same
returns-clause-same g c = λ o. rw c.agreeing.ensures (same_permuted _ _ _ c.in_ok-entries.ensures (c.in_ok-cache.ensures.same (one_permuted _ _ c.in_ok-entries.ensures o)))
