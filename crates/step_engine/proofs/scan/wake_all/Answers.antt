-- One more.

use Rattle.step_engine.proofs.QueueLemmas.{wakes_start, wakes_step, wakes_end}
use Rattle.step_engine.proofs.scan.wake_all.Goals as goal

pub loop-entry-init : goal.loop-entry-init
loop-entry-init g c = record { among = λ a h. h; all = wakes_start _ _ _ _ }

pub loop-entry-preserved : goal.loop-entry-preserved
loop-entry-preserved g c =
    let i = c.loop-entry.invariant in
    record {
      among = λ a h. i.among a (c.in_ok-wake.ensures.among a h);
      all = wakes_step _ _ _ _ _ _ _ _ _ _ c.loop-entry-test.true c.entry-item.is i.all c.in_ok-wake.ensures.all;
    }

pub returns-clause-among : goal.returns-clause-among
returns-clause-among g c = c.loop-entry.invariant.among

pub returns-clause-all : goal.returns-clause-all
returns-clause-all g c = wakes_end _ _ _ _ _ _ _ c.loop-entry.auto.entry-index-end c.loop-entry-test.false c.loop-entry.invariant.all
