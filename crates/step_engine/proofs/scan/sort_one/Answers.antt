-- It goes on or waits.
use Rattle.std.proofs.Common.{refl}
use Rattle.step_engine.specs.Pooling.{Parks}
use Rattle.step_engine.proofs.ScanLemmas.{sort_able, sort_parked}
use Rattle.step_engine.proofs.LookLemmas.{sorts_able, sorts_parked}
use Rattle.step_engine.proofs.scan.sort_one.Goals as goal

pub returns-in-Some-clause-among : goal.returns-in-Some-clause-among
returns-in-Some-clause-among g c = sort_parked (Parks g.K.Ord.cmp c.args.parked.now) (Parks g.K.Ord.cmp c.park.new.parked) _ _ c.in_ok-park.ensures.among

pub returns-clause-among : goal.returns-clause-among
returns-clause-among g c = sort_able (Parks g.K.Ord.cmp c.args.parked.now) _ _ _ (rw (c.push.ensures.items, c.if-is_err.ensures.negation) refl)

pub returns-in-Some-clause-sorts : goal.returns-in-Some-clause-sorts
returns-in-Some-clause-sorts g c = λ rank. sorts_parked g.K.Ord.cmp c.in-Some.part (record { item = c.args.one.item; parts = c.missing.new.parts }) c.args.parked.now c.park.new.parked c.in_ok-park.ensures.all rank _ c.args.one.parts.items c.args.able.now.items c.in-Some.ensures

pub returns-clause-sorts : goal.returns-clause-sorts
returns-clause-sorts g c = λ rank. sorts_able g.K.Ord.cmp rank _ c.args.one.item c.args.one.parts.items c.args.parked.now c.args.able.now.items c.push.new.self.items (rw (c.push.ensures.items, c.if-is_err.ensures.negation) refl) c.in_default.ensures
