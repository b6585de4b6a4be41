-- What is left is put back.
use Rattle.std.proofs.Common.{refl}
use Rattle.step_engine.proofs.ScanLemmas.{put_back_held}
use Rattle.step_engine.proofs.QueueLemmas.{wakes_none, past_none, wakes_range}
use Rattle.step_engine.proofs.scan.put_back.Goals as goal

pub returns-in_default-clause-among : goal.returns-in_default-clause-among
returns-in_default-clause-among g c = put_back_held g.K.Ord.cmp c.args.pool.now (record { news = c.append.new.self; woken = c.args.pool.now.woken; parked = c.args.pool.now.parked }) c.args.left.items c.append.new.self.items (rw (c.append.ensures.items, c.if-is_err.ensures.negation) refl) refl (λ a h. h)

pub returns-clause-among : goal.returns-clause-among
returns-clause-among g c = put_back_held g.K.Ord.cmp c.args.pool.now (record { news = c.append.new.self; woken = c.wake_all.new.woken; parked = c.wake_all.new.parked }) c.args.left.items c.append.new.self.items (rw (c.append.ensures.items, c.if-is_err.ensures.negation) refl) refl c.in_ok-wake_all.ensures.among

pub returns-in_default-clause-all : goal.returns-in_default-clause-all
returns-in_default-clause-all g c = record { news = rw (c.append.ensures.items, c.if-is_err.ensures.negation) refl; wakes = wakes_none _ _ _ _ (past_none _ _ _ c.deref.ensures.value c.in_default.ensures.lookup.0) }

pub returns-clause-all : goal.returns-clause-all
returns-clause-all g c = record { news = rw (c.append.ensures.items, c.if-is_err.ensures.negation) refl; wakes = wakes_range _ _ _ _ _ _ _ _ _ c.deref.ensures.value c.in-Some.ensures.lookup.0.2 c.in_ok-wake_all.ensures.all }
