-- Both had results.
use Rattle.std.proofs.Common.{refl}
use Rattle.wave_pool.proofs.append_results.Goals as goal

pub returns : goal.returns
returns g c = (c.in_ok-all.all, c.in_ok-rest.rest, c.in_ok-all.was, c.in_ok-rest.was, rw (c.append.ensures.items, c.if-is_err.ensures.negation) refl)
