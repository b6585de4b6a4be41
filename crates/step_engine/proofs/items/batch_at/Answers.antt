-- The batch is there, or the number is past the last one.
use Rattle.std.proofs.Common.{sym}
use Rattle.std.proofs.lemmas.Bool.{ltb-false}
use Rattle.step_engine.proofs.items.batch_at.Goals as goal

pub returns-in-Some-clause-some : goal.returns-in-Some-clause-some
returns-in-Some-clause-some g c =
    let a = rw (c.items.ensures, c.value-talk.ensures) at c.in-Some.ensures.lookup in
    (a.3.0, a.1)

pub returns-in-None-clause-none : goal.returns-in-None-clause-none
returns-in-None-clause-none g c =
    let a = rw (c.items.ensures, c.value-talk.ensures) at c.in-None.ensures.lookup in
    ltb-false _ _ (sym a.0)
