-- One more key.
use Rattle.std.proofs.Common.{inr, refl, sym, ◌∙◌}
use Rattle.step_engine.proofs.Listing.{left_here, left_more}
use Rattle.step_engine.proofs.ScanLemmas.{scan_all_none, scan_all_more, scan_all_noted, scan_all_refused, scan_held_more}
use Rattle.step_engine.proofs.LookLemmas.{no_items, looks_none, looks_join, looks_all, passed_none, passed_more}
use Rattle.step_engine.proofs.scan.scan_all.Goals as goal

pub loop-item-init : goal.loop-item-init
loop-item-init g c = record {
  here = rw c.new-opened.ensures.items (scan_all_none _ _ _ _);
  held = λ a h. inr h;
  looks = rw c.new-opened.ensures.items (looks_none _ _ _ _);
  passed = passed_none _ _ _ (rw (← c.into_iter-item-iterator.ensures.into_iter_gives.0) refl);
  left = λ a h. rw (← c.into_iter-item-iterator.ensures.into_iter_gives.0) h;
}

pub returns-in_err-scan-clause-noted : goal.returns-in_err-scan-clause-noted
returns-in_err-scan-clause-noted g c =
    let i = c.loop-item.invariant in
    scan_all_refused _ _ _ _ _ _ _ _ _ i.here (left_here _ _ _ _ i.left c.in-Some.ensures.steps.0) c.scan.ensures.noted

pub loop-item-preserved : goal.loop-item-preserved
loop-item-preserved g c =
    let i = c.loop-item.invariant in
    let in_items = left_here _ _ _ _ i.left c.in-Some.ensures.steps.0 in
    let o = c.in_ok-scan.ensures.ok in
    record {
      here = scan_all_more _ _ _ _ _ _ _ _ _ _ _ _ i.here in_items o.1 o.2;
      looks = looks_join _ _ _ _ (λ k p. ⊥) _ (λ k p. ⊥) _ _ _ _ _ _ i.looks c.in_ok-scan.ensures.looks (λ k p h. absurd h);
      passed = passed_more _ _ _ _ _ _ _ _ _ _ _ i.passed c.in-Some.ensures.steps.0 c.in_ok-scan.ensures.looks;
      held = scan_held_more _ _ _ _ _ in_items i.held c.in_ok-scan.ensures.held;
      left = left_more _ _ _ _ i.left c.in-Some.ensures.steps.0;
    }

pub returns-clause-noted : goal.returns-clause-noted
returns-clause-noted g c = scan_all_noted _ _ _ _ _ _ _ c.loop-item.invariant.here

pub returns-clause-ok : goal.returns-clause-ok
returns-clause-ok g c = c.loop-item.invariant.here

pub returns-clause-held : goal.returns-clause-held
returns-clause-held g c = c.loop-item.invariant.held

pub returns-clause-looks : goal.returns-clause-looks
returns-clause-looks g c = let rest = c.loop-item.item-iterator.rest in looks_all _ _ _ _ _ _ _ _ _ (no_items _ (sym rest.ok.0 ∙ c.in-None.ensures.steps.0)) c.loop-item.invariant.passed c.loop-item.invariant.looks
