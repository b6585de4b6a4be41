-- What the item asks for is all that is added.
use Rattle.step_engine.proofs.WantingLemmas.{asked_alone}
use Rattle.step_engine.proofs.wanted.parts_of.Goals as goal

pub returns-clause-among : goal.returns-clause-among
returns-clause-among g c = λ k h. asked_alone _ _ _ c.new-parts.ensures.items (c.in_ok-want_item.ensures.among k h)

pub returns-clause-all : goal.returns-clause-all
returns-clause-all g c = rw c.new-parts.ensures.items at c.in_ok-want_item.ensures.all
