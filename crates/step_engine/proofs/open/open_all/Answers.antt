-- One more key.
use Rattle.step_engine.proofs.OpeningLemmas.{opens_none, opens_more, opens_noted, opens_refused, opens_refused_then}
use Rattle.step_engine.proofs.OpenedLemmas.{opened_none, opened_more, met_none, met_more, met_all}
use Rattle.step_engine.proofs.Steps.{item_in}
use Rattle.step_engine.proofs.open.open_all.Goals as goal

pub loop-key-init : goal.loop-key-init
loop-key-init g c = record {
  here = rw c.new-items.ensures.items (opens_none _ _ _ _);
  opened = opened_none _ _;
  met = met_none _ _;
}

pub returns-in_err-left-clause-noted : goal.returns-in_err-left-clause-noted
returns-in_err-left-clause-noted g c = opens_refused _ _ _ _ _ _ _ _ c.loop-key.invariant.here c.in_err-left.ensures.err

pub returns-in_err-put_in-clause-noted : goal.returns-in_err-put_in-clause-noted
returns-in_err-put_in-clause-noted g c = opens_refused_then _ _ _ _ _ _ _ _ _ _ _ c.loop-key.invariant.here (item_in _ _ _ _ c.deref-key-items.ensures.value c.loop-key-test.true c.key-item.is) c.in_ok-left.ensures.ok

pub loop-key-preserved : goal.loop-key-preserved
loop-key-preserved g c =
    let i = c.loop-key.invariant in
    record {
      here = opens_more _ _ _ _ _ _ _ _ _ _ _ _ i.here (item_in _ _ _ _ c.deref-key-items.ensures.value c.loop-key-test.true c.key-item.is) c.in_ok-left.ensures.ok c.in_ok-put_in.ensures;
      opened = opened_more _ _ _ _ _ _ _ _ _ _ i.opened c.in_ok-left.ensures.ok c.in_ok-put_in.ensures;
      met = met_more _ _ _ _ _ _ _ _ _ _ i.met c.in_ok-left.ensures.ok c.in_ok-left.ensures.met c.deref-key-items.ensures.value c.loop-key-test.true c.key-item.is;
    }

pub returns-clause-ok : goal.returns-clause-ok
returns-clause-ok g c = c.loop-key.invariant.here

pub returns-clause-noted : goal.returns-clause-noted
returns-clause-noted g c = opens_noted _ _ _ _ _ _ _ c.loop-key.invariant.here

pub returns-clause-opened : goal.returns-clause-opened
returns-clause-opened g c = c.loop-key.invariant.opened

pub returns-clause-met : goal.returns-clause-met
returns-clause-met g c = met_all _ _ _ _ c.loop-key.invariant.met c.deref-key-items.ensures.value c.loop-key-test.false
