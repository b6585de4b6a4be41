-- The queue of the part, if any.
use Rattle.std.proofs.Common.{sym, ◌∙◌}
use Rattle.step_engine.proofs.PoolLemmas.{holds_none, taken_less}
use Rattle.step_engine.proofs.QueueLemmas.{queue_of, queue_none}
use Rattle.step_engine.proofs.pool.take_parked.Goals as goal

pub returns-in-Some-clause-out : goal.returns-in-Some-clause-out
returns-in-Some-clause-out g c = λ a h. (c.args.part.now, c.in-Some.queue, sym c.remove.ensures.value ∙ c.in-Some.is, h)

pub returns-in-Some-clause-less : goal.returns-in-Some-clause-less
returns-in-Some-clause-less g c = taken_less g.K.Ord.cmp c.args.part.now c.args.parked.now c.remove.new.self c.remove.ensures.sets

pub returns-in-Some-clause-all : goal.returns-in-Some-clause-all
returns-in-Some-clause-all g c = sym (queue_of _ _ (sym c.remove.ensures.value ∙ c.in-Some.is))

pub returns-in-Some-clause-sets : goal.returns-in-Some-clause-sets
returns-in-Some-clause-sets g c = c.remove.ensures.sets

pub returns-in-None-clause-out : goal.returns-in-None-clause-out
returns-in-None-clause-out g c = λ a h. absurd (holds_none a (rw c.new.ensures.items at h))

pub returns-in-None-clause-less : goal.returns-in-None-clause-less
returns-in-None-clause-less g c = taken_less g.K.Ord.cmp c.args.part.now c.args.parked.now c.remove.new.self c.remove.ensures.sets

pub returns-in-None-clause-all : goal.returns-in-None-clause-all
returns-in-None-clause-all g c = c.new.ensures.items ∙ sym (queue_none _ (sym c.remove.ensures.value ∙ c.in-None.is))

pub returns-in-None-clause-sets : goal.returns-in-None-clause-sets
returns-in-None-clause-sets g c = c.remove.ensures.sets
