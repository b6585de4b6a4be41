-- One more key.
use Rattle.std.proofs.Common.{refl, sym, ◌∙◌}
use Rattle.step_engine.specs.Pooling.{Holds, Parks}
use Rattle.step_engine.proofs.Listing.{left_here, left_more}
use Rattle.step_engine.proofs.ScanLemmas.{sort_none, sort_more}
use Rattle.step_engine.proofs.LookLemmas.{no_items, sorts_none, sorts_join, sorts_all, sorted_none, sorted_more}
use Rattle.step_engine.proofs.scan.sort_all.Goals as goal

pub loop-one-init : goal.loop-one-init
loop-one-init g c = record {
  here = sort_none (Parks g.K.Ord.cmp c.args.parked.now) (Holds c.args.waiting.items) _ c.new-able.ensures.items;
  sorts = λ rank. rw c.new-able.ensures.items (sorts_none _ _ _ _ _ _);
  passed = sorted_none g.K.Ord.cmp _ _ c.args.parked.now _ (rw (← c.into_iter-one-iterator.ensures.into_iter_gives.0) refl);
  left = λ a h. rw (← c.into_iter-one-iterator.ensures.into_iter_gives.0) h;
}

pub loop-one-preserved : goal.loop-one-preserved
loop-one-preserved g c =
    let i = c.loop-one.invariant in
    record {
      here = sort_more (Parks g.K.Ord.cmp c.args.parked.now) (Parks g.K.Ord.cmp c.loop-one.parked) (Parks g.K.Ord.cmp c.sort_one.new.parked) _ _ _ _ (left_here _ _ _ _ i.left c.in-Some.ensures.steps.0) i.here c.in_ok-sort_one.ensures.among;
      sorts = λ rank. sorts_join _ _ _ _ _ (λ k p. ⊥) _ _ _ _ _ _ _ (i.sorts rank) (c.in_ok-sort_one.ensures.sorts rank) (λ h. h c.in-Some.one (left_here _ _ _ _ i.left c.in-Some.ensures.steps.0));
      passed = sorted_more g.K.Ord.cmp (λ k. 0) _ _ _ _ _ c.in-Some.one c.loop-one.parked c.sort_one.new.parked _ _ i.passed c.in-Some.ensures.steps.0 (c.in_ok-sort_one.ensures.sorts (λ k. 0));
      left = left_more _ _ _ _ i.left c.in-Some.ensures.steps.0;
    }

pub returns-clause-among : goal.returns-clause-among
returns-clause-among g c = c.loop-one.invariant.here

pub returns-clause-sorts : goal.returns-clause-sorts
returns-clause-sorts g c = let rest = c.loop-one.one-iterator.rest in λ rank. sorts_all _ _ _ _ _ _ _ _ _ _ (no_items _ (sym rest.ok.0 ∙ c.in-None.ensures.steps.0)) c.loop-one.invariant.passed (c.loop-one.invariant.sorts rank)
