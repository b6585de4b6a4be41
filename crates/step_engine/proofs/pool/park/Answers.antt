-- The queue has one more key.
use Rattle.std.proofs.Common.{refl}
use Rattle.step_engine.proofs.PoolLemmas.{parked_more}
use Rattle.step_engine.proofs.QueueLemmas.{queues}
use Rattle.step_engine.proofs.pool.park.Goals as goal

pub returns-clause-among : goal.returns-clause-among
returns-clause-among g c = parked_more g.K.Ord.cmp c.args.part c.args.parked.now c.take_parked-list.new.parked c.insert.new.self c.take_parked-list.result.items c.args.waiting (record { list = c.push.new.self }) c.take_parked-list.ensures.out c.take_parked-list.ensures.less (rw (c.push.ensures.items, c.if-is_err.ensures.negation) refl) c.in_ok-insert.ensures.puts

pub returns-clause-all : goal.returns-clause-all
returns-clause-all g c =
    let key = g.met.K.StepKey g.world.𝓛 g.world.𝓜 g.world.𝓡 ((λ s x. x), (λ x. x), (λ x. x), λ x. x) in
    queues g.K.Ord.cmp key.same_key c.args.part c.args.waiting (record { list = c.push.new.self }) c.take_parked-list.result.items c.args.parked.now c.take_parked-list.new.parked c.insert.new.self c.take_parked-list.ensures.sets c.take_parked-list.ensures.all (rw (c.push.ensures.items, c.if-is_err.ensures.negation) refl) c.in_ok-insert.ensures.puts c.in_ok-insert.ensures.here
