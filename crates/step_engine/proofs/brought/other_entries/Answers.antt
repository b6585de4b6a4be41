-- One more entry is looked at.
use Rattle.step_engine.proofs.Joining.{others_none, others_more, others_all}
use Rattle.step_engine.proofs.brought.other_entries.Goals as goal

pub loop-entry-init : goal.loop-entry-init
loop-entry-init g c = rw c.new-others.ensures.items (others_none _ c.entries-entry-items.result.now)

pub loop-entry-preserved : goal.loop-entry-preserved
loop-entry-preserved g c = others_more _ _ _ _ _ c.loop-entry.invariant c.loop-entry-test.true c.entry-item.is _ c.in_ok-add_missing.ensures

pub returns-clause-others : goal.returns-clause-others
returns-clause-others g c = others_all _ _ _ _ _ c.loop-entry.invariant c.entries-entry-items.ensures.all c.loop-entry-test.false
