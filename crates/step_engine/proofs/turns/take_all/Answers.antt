-- One more turn.
use Rattle.std.proofs.Common.{sym, ◌∙◌}
use Rattle.step_engine.proofs.LookLemmas.{no_items}
use Rattle.step_engine.proofs.TakingLemmas.{takes_none, takes_more, takes_grow}
use Rattle.step_engine.proofs.Listing.{left_here, left_more}
use Rattle.step_engine.proofs.ForwardLemmas.{goes_on_none, goes_on_turned, goes_on_same, none_turned}
use Rattle.step_engine.proofs.turns.take_all.Goals as goal

pub loop-turned-init : goal.loop-turned-init
loop-turned-init g c = record {
  goes = goes_on_none _ _ _ _ _ _ (λ k p h. rw c.into_iter-turned-iterator.ensures.into_iter_gives.0 h);
  entered = λ h. h;
  here = takes_none _ _ _ _;
  grows = λ e h. h;
  left = λ a h. rw (← c.into_iter-turned-iterator.ensures.into_iter_gives.0) h;
}

pub loop-turned-preserved : goal.loop-turned-preserved
loop-turned-preserved g c =
    let i = c.loop-turned.invariant in
    record {
      goes = goes_on_turned _ _ _ _ _ _ _ _ _ _ c.in-Some.turned _ _ _ i.goes c.in-Some.ensures.steps.0 c.in_ok-left.ensures.goes c.in_ok-put_in.ensures;
      entered = λ h. c.in_ok-left.ensures.entered (i.entered h);
      here = takes_more _ _ _ _ _ _ _ _ _ _ c.in-Some.turned _ i.here i.grows (left_here _ _ _ _ i.left c.in-Some.ensures.steps.0) c.in_ok-left.ensures.takes c.in_ok-put_in.ensures;
      grows = λ e h. takes_grow _ _ _ _ _ _ _ _ c.in_ok-left.ensures.takes e (i.grows e h);
      left = left_more _ _ _ _ i.left c.in-Some.ensures.steps.0;
    }

pub returns-clause-takes : goal.returns-clause-takes
returns-clause-takes g c = c.loop-turned.invariant.here

pub returns-clause-goes : goal.returns-clause-goes
returns-clause-goes g c = let rest = c.loop-turned.turned-iterator.rest in goes_on_same _ _ _ _ _ _ _ _ _ c.loop-turned.invariant.goes (none_turned rest.items _ (no_items rest.items (sym rest.ok.0 ∙ c.in-None.ensures.steps.0)))

pub returns-clause-entered : goal.returns-clause-entered
returns-clause-entered g c = c.loop-turned.invariant.entered
