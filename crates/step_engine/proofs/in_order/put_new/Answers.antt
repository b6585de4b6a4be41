-- An entry of the key is there.
use Rattle.std.proofs.Common.{refl, inl}
use Rattle.step_engine.proofs.in_order.put_new.Goals as goal

pub returns-in-Some : goal.returns-in-Some
returns-in-Some g c = inl ((c.in-Some._found.now, c.in-Some.ensures.some.0, c.in-Some.ensures.some.1), refl)
