-- Fewer entries.
use Rattle.std.specs.Fn.{FnReturnsAt}
use Rattle.step_engine.proofs.Keeping.{agree_kept}
use Rattle.step_engine.proofs.cache.Cache.keep.Goals as goal

pub invariant_of-self : goal.invariant_of-self
invariant_of-self g c = (c.keep_in.ensures.order c.self.invariant.0, λ is. agree_kept (FnReturnsAt g.F.Fn c.args.wanted.now) _ _ c.keep_in.ensures.kept (c.self.invariant.1 is))
