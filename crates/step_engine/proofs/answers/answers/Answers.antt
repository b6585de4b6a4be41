-- One more answer.
use Rattle.std.proofs.Common.{refl, ap, ◌∙◌}
use Rattle.step_engine.specs.Edits.{over}
use Rattle.step_engine.proofs.Steps.{item_in, way_none, way_more, way_adds, here_on, answering_none, answering_more, answering_all}
use Rattle.step_engine.proofs.Asking.{still_then}
use Rattle.step_engine.proofs.Ending.{counts_wanting}
use Rattle.step_engine.proofs.ForwardLemmas.{lacks_ask}
use Rattle.step_engine.proofs.UneditedLemmas.{unedited_none, unedited_then}
use Rattle.step_engine.proofs.answers.answers.Goals as goal

pub loop-ask-init : goal.loop-ask-init
loop-ask-init g c = record { held = refl; way = way_none _ _ _ _ c.requires.kept; unedited = unedited_none _ _; here = rw c.new-pairs.ensures (answering_none _ _ _) }

pub returns-in_err-found-clause-adds : goal.returns-in_err-found-clause-adds
returns-in_err-found-clause-adds g c = way_adds _ _ _ _ _ _ _ _ c.loop-ask.invariant.way c.answer.ensures.adds

pub returns-in_default-clause-adds : goal.returns-in_default-clause-adds
returns-in_default-clause-adds g c = way_adds _ _ _ _ _ _ _ _ c.loop-ask.invariant.way c.answer.ensures.adds

pub returns-in_default-clause-ok : goal.returns-in_default-clause-ok
returns-in_default-clause-ok g c = still_then _ _ _ _ _ _ _ _ c.loop-ask.invariant.way (rw c.in_default.is at c.in_ok-found.ensures.ok)

pub returns-in_err-ask-clause-adds : goal.returns-in_err-ask-clause-adds
returns-in_err-ask-clause-adds g c = way_adds _ _ _ _ _ _ _ _ c.loop-ask.invariant.way c.answer.ensures.adds

pub returns-in_err-keep_pair-clause-adds : goal.returns-in_err-keep_pair-clause-adds
returns-in_err-keep_pair-clause-adds g c = way_adds _ _ _ _ _ _ _ _ c.loop-ask.invariant.way c.answer.ensures.adds

pub loop-ask-preserved : goal.loop-ask-preserved
loop-ask-preserved g c =
    let d = rw c.in-Some.is at c.in_ok-found.ensures.ok in
    let way = c.loop-ask.invariant.way in record {
      held = c.answer.ensures.held ∙ c.loop-ask.invariant.held;
      way = way_more _ _ _ _ _ _ _ _ way _ _ d.moves d.kept (ap (over c.args.fixed.now.edits.now) c.answer.ensures.held) c.in_ok-found.ensures.count;
      unedited = unedited_then _ _ _ _ c.loop-ask.invariant.unedited c.answer.ensures.unedited;
      here = rw (c.in_ok-keep_pair.ensures, c.in_ok-ask.ensures) (answering_more _ _ _ _ _ _ _ _ c.loop-ask.invariant.here c.loop-ask-test.true c.ask-item.is d.moves.grows (λ w i. d.right w (here_on _ _ _ _ _ _ _ way w i)) d.small d.parts);
    }

pub returns-clause-ok : goal.returns-clause-ok
returns-clause-ok g c = answering_all _ _ _ _ _ _ _ _ _ _ _ c.loop-ask.invariant.way c.loop-ask.invariant.here c.items-ask-items.ensures c.loop-ask-test.false

pub returns-in_err-found-clause-held : goal.returns-in_err-found-clause-held
returns-in_err-found-clause-held g c = c.answer.ensures.held ∙ c.loop-ask.invariant.held

pub returns-in_default-clause-held : goal.returns-in_default-clause-held
returns-in_default-clause-held g c = c.answer.ensures.held ∙ c.loop-ask.invariant.held

pub returns-in_err-ask-clause-held : goal.returns-in_err-ask-clause-held
returns-in_err-ask-clause-held g c = c.answer.ensures.held ∙ c.loop-ask.invariant.held

pub returns-in_err-keep_pair-clause-held : goal.returns-in_err-keep_pair-clause-held
returns-in_err-keep_pair-clause-held g c = c.answer.ensures.held ∙ c.loop-ask.invariant.held

pub returns-clause-held : goal.returns-clause-held
returns-clause-held g c = c.loop-ask.invariant.held

pub returns-in_default-clause-count : goal.returns-in_default-clause-count
returns-in_default-clause-count g c = c.in_ok-found.ensures.count ∙ c.loop-ask.invariant.way.count

pub returns-in_err-ask-clause-count : goal.returns-in_err-ask-clause-count
returns-in_err-ask-clause-count g c = counts_wanting c.from_residual-in_err-ask.result _ _ c.from_residual-in_err-ask.ensures.1 (c.in_ok-found.ensures.count ∙ c.loop-ask.invariant.way.count)

pub returns-in_err-keep_pair-clause-count : goal.returns-in_err-keep_pair-clause-count
returns-in_err-keep_pair-clause-count g c = counts_wanting c.from_residual-in_err-keep_pair.result _ _ c.from_residual-in_err-keep_pair.ensures.1 (c.in_ok-found.ensures.count ∙ c.loop-ask.invariant.way.count)

pub returns-clause-count : goal.returns-clause-count
returns-clause-count g c = c.loop-ask.invariant.way.count

pub returns-in_default-clause-none : goal.returns-in_default-clause-none
returns-in_default-clause-none g c = lacks_ask _ _ _ (item_in _ _ _ _ c.items-ask-items.ensures c.loop-ask-test.true c.ask-item.is) (rw c.in_default.is at c.in_ok-found.ensures.none)

pub returns-in_err-found-clause-unedited : goal.returns-in_err-found-clause-unedited
returns-in_err-found-clause-unedited g c = unedited_then _ _ _ _ c.loop-ask.invariant.unedited c.answer.ensures.unedited

pub returns-in_default-clause-unedited : goal.returns-in_default-clause-unedited
returns-in_default-clause-unedited g c = unedited_then _ _ _ _ c.loop-ask.invariant.unedited c.answer.ensures.unedited

pub returns-in_err-ask-clause-unedited : goal.returns-in_err-ask-clause-unedited
returns-in_err-ask-clause-unedited g c = unedited_then _ _ _ _ c.loop-ask.invariant.unedited c.answer.ensures.unedited

pub returns-in_err-keep_pair-clause-unedited : goal.returns-in_err-keep_pair-clause-unedited
returns-in_err-keep_pair-clause-unedited g c = unedited_then _ _ _ _ c.loop-ask.invariant.unedited c.answer.ensures.unedited

pub returns-clause-unedited : goal.returns-clause-unedited
returns-clause-unedited g c = c.loop-ask.invariant.unedited
