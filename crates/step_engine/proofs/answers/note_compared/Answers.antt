-- The answers are all the same.
use Rattle.std.proofs.Common.{refl, inr}
use Rattle.step_engine.proofs.answers.note_compared.Goals as goal

pub returns : goal.returns
returns g c = inr (c.if-not-agrees.ensures refl, rw c.in_ok-noted.ensures at c.in_ok-note.ensures.ok)
