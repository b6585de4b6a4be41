-- One more ask.
use Rattle.std.proofs.Common.{inl}
use Rattle.step_engine.proofs.Steps.{item_in}
use Rattle.step_engine.proofs.WantingLemmas.{parts_more}
use Rattle.step_engine.proofs.WantedLemmas.{wants_start, wants_step, wants_all, ask_at}
use Rattle.step_engine.proofs.wanted.want_asks.Goals as goal

pub loop-ask-init : goal.loop-ask-init
loop-ask-init g c = record { among = λ k h. inl h; all = wants_start _ _ _ _ _ }

pub loop-ask-preserved : goal.loop-ask-preserved
loop-ask-preserved g c =
    let i = c.loop-ask.invariant in
    record {
      among = parts_more _ _ _ _ _ (item_in _ _ _ _ c.items-ask-items.ensures c.loop-ask-test.true c.ask-item.is) i.among c.in_ok-want.ensures.among;
      all = wants_step _ _ _ _ _ _ _ _ _ i.all c.in_ok-want.ensures.all (ask_at _ _ _ _ c.items-ask-items.ensures c.loop-ask-test.true c.ask-item.is);
    }

pub returns-clause-among : goal.returns-clause-among
returns-clause-among g c = c.loop-ask.invariant.among

pub returns-clause-all : goal.returns-clause-all
returns-clause-all g c = wants_all _ _ _ _ _ _ _ c.loop-ask.invariant.all (rw (← c.items-ask-items.ensures) c.loop-ask-test.false)
