-- The same entries.
use Rattle.step_engine.proofs.cache.Cache.agreeing.Goals as goal

pub invariant_of-result : goal.invariant_of-result
invariant_of-result g c = (c.self.invariant.0, λ is. rw c.self.view_is (c.requires is))
