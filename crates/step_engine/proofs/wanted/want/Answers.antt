-- One more part.
use Rattle.step_engine.proofs.WantingLemmas.{want_one}
use Rattle.step_engine.proofs.wanted.want.Goals as goal

pub returns-clause-among : goal.returns-clause-among
returns-clause-among g c = λ k h. want_one _ _ _ _ k c.in-Part.is c.in_ok-part.ensures (rw (c.push.ensures.items, c.if-is_err.ensures.negation) at h)
