-- The flag says it.
use Rattle.step_engine.proofs.cache.Cache.agrees.Goals as goal

pub returns : goal.returns
returns g c = λ is. rw c.self.view_is at (c.self.invariant.1 is)
