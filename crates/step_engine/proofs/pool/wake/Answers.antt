-- The queue is appended.
use Rattle.std.proofs.Common.{refl}
use Rattle.std.proofs.lemmas.Cmp.{tied_itself}
use Rattle.step_engine.proofs.PoolLemmas.{woken_more}
use Rattle.step_engine.proofs.QueueLemmas.{wakes, at_none}
use Rattle.step_engine.proofs.pool.wake.Goals as goal

pub returns-clause-among : goal.returns-clause-among
returns-clause-among g c = woken_more g.K.Ord.cmp c.args.parked.now c.take_parked-list.new.parked c.take_parked-list.result.items c.args.woken.now.items c.append.new.self.items c.take_parked-list.ensures.out c.take_parked-list.ensures.less (rw (c.append.ensures.items, c.if-is_err.ensures.negation) refl)

pub returns-clause-all : goal.returns-clause-all
returns-clause-all g c =
    let ord = g.met.K.Ord g.world.𝓛 g.world.𝓜 g.world.𝓡 ((λ s x. x), (λ x. x), (λ x. x), λ x. x) in
    let key = g.met.K.StepKey g.world.𝓛 g.world.𝓜 g.world.𝓡 ((λ s x. x), (λ x. x), (λ x. x), λ x. x) in
    let gone = at_none g.K.Ord.cmp c.args.part.now c.args.parked.now c.take_parked-list.new.parked (tied_itself ord.total c.args.part.now) c.take_parked-list.ensures.sets in
    wakes g.K.Ord.cmp key.same_key c.args.part.now c.take_parked-list.result.items c.args.woken.now.items c.append.new.self.items c.args.parked.now c.take_parked-list.new.parked c.take_parked-list.ensures.sets gone c.take_parked-list.ensures.all (rw (c.append.ensures.items, c.if-is_err.ensures.negation) refl)
