-- One more step.
use Rattle.std.proofs.Common.{refl, sym, ap, ◌∙◌, inl, arith}
use Rattle.step_engine.specs.Edits.{over}
use Rattle.step_engine.specs.Standing.{setting_of}
use Rattle.step_engine.proofs.Ending.{counts_wanting}
use Rattle.step_engine.proofs.Listing.{list_none, list_noted, list_more, list_refused, need_item, list_item, ready_held, item_held, notes_held, advanced_held, left_here, left_more}
use Rattle.step_engine.proofs.LookLemmas.{no_items}
use Rattle.step_engine.proofs.ForwardLemmas.{goes_on_none, goes_on_sorted, goes_on_same, none_left}
use Rattle.step_engine.proofs.ActLemmas.{moved_none, moved_more, moved_all}
use Rattle.step_engine.proofs.UneditedLemmas.{unedited_none, unedited_then}
use Rattle.step_engine.proofs.advance.advance_all.Goals as goal

pub loop-item-init : goal.loop-item-init
loop-item-init g c = record {
  held = refl;
  count = refl;
  unedited = unedited_none _ _;
  goes = goes_on_none _ _ _ _ _ _ (λ k p h. inl (rw c.into_iter-item-iterator.ensures.into_iter_gives.0 h));
  grows = omega arith;
  moved = moved_none _ _ _ _ _ _ (rw (← c.into_iter-item-iterator.ensures.into_iter_gives.0) refl);
  entered = λ h. h;
  here = rw (c.new-runs.ensures.items, c.requires.none) (list_none _ _ _ _ c.requires.ready);
  left = λ a h. rw (← c.into_iter-item-iterator.ensures.into_iter_gives.0) h;
}

pub advance-requires-clause-ready : goal.advance-requires-clause-ready
advance-requires-clause-ready g c =
    let i = c.loop-item.invariant in
    let s = setting_of g.R.Rules.means c.args.fixed.now (g.T.Tree.held c.args.tree.now) in
    λ κs q. ready_held s _ _ _ (ap (over c.args.fixed.now.edits.now) i.held) i.here.ready

pub advance-requires-clause-item : goal.advance-requires-clause-item
advance-requires-clause-item g c =
    let i = c.loop-item.invariant in
    let s = setting_of g.R.Rules.means c.args.fixed.now (g.T.Tree.held c.args.tree.now) in
    λ κs q. item_held s _ _ _ (ap (over c.args.fixed.now.edits.now) i.held) (list_item s _ _ _ _ i.here.grows c.requires.items (left_here _ _ _ _ i.left c.in-Some.ensures.steps.0))

pub returns-in_err-left-clause-notes : goal.returns-in_err-left-clause-notes
returns-in_err-left-clause-notes g c =
    let i = c.loop-item.invariant in
    let s = setting_of g.R.Rules.means c.args.fixed.now (g.T.Tree.held c.args.tree.now) in
    list_refused s _ _ _ _ _ _ _ i.here _ (need_item s _ _ (left_here _ _ _ _ i.left c.in-Some.ensures.steps.0)) _ (notes_held s _ _ _ _ _ (ap (over c.args.fixed.now.edits.now) i.held) c.advance.ensures.notes)

pub returns-in_err-sort_in-clause-notes : goal.returns-in_err-sort_in-clause-notes
returns-in_err-sort_in-clause-notes g c =
    let i = c.loop-item.invariant in
    let s = setting_of g.R.Rules.means c.args.fixed.now (g.T.Tree.held c.args.tree.now) in
    list_refused s _ _ _ _ _ _ _ i.here _ (need_item s _ _ (left_here _ _ _ _ i.left c.in-Some.ensures.steps.0)) _ (notes_held s _ _ _ _ _ (ap (over c.args.fixed.now.edits.now) i.held) c.advance.ensures.notes)

pub loop-item-preserved : goal.loop-item-preserved
loop-item-preserved g c =
    let i = c.loop-item.invariant in
    let s = setting_of g.R.Rules.means c.args.fixed.now (g.T.Tree.held c.args.tree.now) in
    record {
      held = c.advance.ensures.held ∙ i.held;
      count = c.in_ok-left.ensures.count ∙ i.count;
      unedited = unedited_then _ _ _ _ i.unedited c.advance.ensures.unedited;
      goes = goes_on_sorted _ _ _ _ _ _ _ _ _ _ _ _ c.in-Some.item _ _ _ i.goes c.in-Some.ensures.steps.0 c.in_ok-left.ensures.goes c.in_ok-sort_in.ensures;
      grows = omega (arith, i.grows, c.in_ok-left.ensures.acts.grows);
      moved = moved_more _ _ _ _ _ _ c.in-Some.item _ _ _ _ _ _ _ _ i.moved i.grows c.in-Some.ensures.steps.0 (left_here _ _ _ _ i.left c.in-Some.ensures.steps.0) i.goes.later.done c.in_ok-left.ensures.acts c.in_ok-sort_in.ensures;
      entered = λ h. c.in_ok-left.ensures.entered (i.entered h);
      here = list_more s _ _ _ _ _ _ _ i.here _ (need_item s _ _ (left_here _ _ _ _ i.left c.in-Some.ensures.steps.0)) _ _ _ _ _ (advanced_held s _ _ _ _ _ _ _ (ap (over c.args.fixed.now.edits.now) i.held) c.in_ok-left.ensures.ok) c.in_ok-sort_in.ensures;
      left = left_more _ _ _ _ i.left c.in-Some.ensures.steps.0;
    }

pub returns-clause-notes : goal.returns-clause-notes
returns-clause-notes g c = list_noted _ _ _ _ _ _ _ _ c.loop-item.invariant.here

pub returns-clause-ok : goal.returns-clause-ok
returns-clause-ok g c = c.loop-item.invariant.here

pub returns-in_err-left-clause-held : goal.returns-in_err-left-clause-held
returns-in_err-left-clause-held g c = c.advance.ensures.held ∙ c.loop-item.invariant.held

pub returns-in_err-sort_in-clause-held : goal.returns-in_err-sort_in-clause-held
returns-in_err-sort_in-clause-held g c = c.advance.ensures.held ∙ c.loop-item.invariant.held

pub returns-clause-held : goal.returns-clause-held
returns-clause-held g c = c.loop-item.invariant.held

pub returns-in_err-sort_in-clause-count : goal.returns-in_err-sort_in-clause-count
returns-in_err-sort_in-clause-count g c = counts_wanting c.from_residual-in_err-sort_in.result _ _ c.from_residual-in_err-sort_in.ensures.1 (c.in_ok-left.ensures.count ∙ c.loop-item.invariant.count)

pub returns-clause-count : goal.returns-clause-count
returns-clause-count g c = c.loop-item.invariant.count

pub returns-clause-goes : goal.returns-clause-goes
returns-clause-goes g c = let rest = c.loop-item.item-iterator.rest in goes_on_same _ _ _ _ _ _ _ _ _ c.loop-item.invariant.goes (none_left rest.items _ (no_items rest.items (sym rest.ok.0 ∙ c.in-None.ensures.steps.0)))

pub returns-clause-acts : goal.returns-clause-acts
returns-clause-acts g c = let rest = c.loop-item.item-iterator.rest in moved_all _ _ _ rest.items _ _ _ (no_items rest.items (sym rest.ok.0 ∙ c.in-None.ensures.steps.0)) c.loop-item.invariant.grows c.loop-item.invariant.moved

pub returns-clause-entered : goal.returns-clause-entered
returns-clause-entered g c = c.loop-item.invariant.entered

pub returns-in_err-left-clause-unedited : goal.returns-in_err-left-clause-unedited
returns-in_err-left-clause-unedited g c = unedited_then _ _ _ _ c.loop-item.invariant.unedited c.advance.ensures.unedited

pub returns-in_err-sort_in-clause-unedited : goal.returns-in_err-sort_in-clause-unedited
returns-in_err-sort_in-clause-unedited g c = unedited_then _ _ _ _ c.loop-item.invariant.unedited c.advance.ensures.unedited

pub returns-clause-unedited : goal.returns-clause-unedited
returns-clause-unedited g c = c.loop-item.invariant.unedited
