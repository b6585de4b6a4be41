-- A round.
use Rattle.std.proofs.Common.{refl}
use Rattle.step_engine.specs.Standing.{setting_of, state_of}
use Rattle.step_engine.proofs.Acting.{noted_of}
use Rattle.step_engine.proofs.Ending.{counts_wanting}
use Rattle.step_engine.proofs.TakingLemmas.{taking}
use Rattle.step_engine.proofs.ForwardLemmas.{goes_on_join}
use Rattle.step_engine.proofs.VisitLemmas.{runs_turned, round_acts, one_there, not_empty}
use Rattle.step_engine.proofs.round.round.Goals as goal

pub returns-in_err-runs-clause-notes : goal.returns-in_err-runs-clause-notes
returns-in_err-runs-clause-notes g c = c.advance_all.ensures.notes

pub returns-in_err-done-clause-notes : goal.returns-in_err-done-clause-notes
returns-in_err-done-clause-notes g c = c.advance_all.ensures.notes

pub returns-in_err-take_all-clause-notes : goal.returns-in_err-take_all-clause-notes
returns-in_err-take_all-clause-notes g c = λ top x q w. noted_of _ _ _ _ _ refl refl (c.advance_all.ensures.notes top x q w)

pub returns-clause-notes : goal.returns-clause-notes
returns-clause-notes g c = λ top x q w. noted_of _ _ _ _ _ refl refl (c.advance_all.ensures.notes top x q w)

pub returns-clause-ok : goal.returns-clause-ok
returns-clause-ok g c =
    let s = setting_of g.R.Rules.means c.args.fixed.now (g.T.Tree.held c.args.tree.now) in
    let y = state_of g.R.Key.Ord.cmp c.args.progress.now c.args.book.now (g.T.Tree.reads c.args.tree.now) in
    let z = state_of g.R.Key.Ord.cmp c.advance_all.new.progress c.advance_all.new.book (g.T.Tree.reads c.advance_all.new.tree) in
    c.in_ok-take_all.ensures.takes s y z _ _ refl (taking s y z _ _ _ _ _ _ c.in_ok-runs.ensures.ok c.in_ok-done.ensures)

pub returns-in_err-runs-clause-held : goal.returns-in_err-runs-clause-held
returns-in_err-runs-clause-held g c = c.advance_all.ensures.held

pub returns-in_err-done-clause-held : goal.returns-in_err-done-clause-held
returns-in_err-done-clause-held g c = c.advance_all.ensures.held

pub returns-in_err-take_all-clause-held : goal.returns-in_err-take_all-clause-held
returns-in_err-take_all-clause-held g c = c.advance_all.ensures.held

pub returns-clause-held : goal.returns-clause-held
returns-clause-held g c = c.advance_all.ensures.held

pub returns-in_err-done-clause-count : goal.returns-in_err-done-clause-count
returns-in_err-done-clause-count g c = counts_wanting c.from_residual-in_err-done.result _ _ c.from_residual-in_err-done.ensures.1 c.in_ok-runs.ensures.count

pub returns-in_err-take_all-clause-count : goal.returns-in_err-take_all-clause-count
returns-in_err-take_all-clause-count g c = counts_wanting c.from_residual-in_err-take_all.result _ _ c.from_residual-in_err-take_all.ensures.1 c.in_ok-runs.ensures.count

pub returns-clause-count : goal.returns-clause-count
returns-clause-count g c = c.in_ok-runs.ensures.count

pub returns-clause-goes : goal.returns-clause-goes
returns-clause-goes g c = goes_on_join _ _ _ _ _ _ _ _ _ _ _ _ c.in_ok-runs.ensures.goes (runs_turned _ _ _ _ c.in_ok-done.ensures) c.in_ok-take_all.ensures.goes

pub returns-clause-acts : goal.returns-clause-acts
returns-clause-acts g c = round_acts _ _ _ _ _ _ c.in_ok-runs.runs.items c.in_ok-runs.ensures.acts c.count_act.ensures.grows (λ o. c.count_act.ensures.counts (not_empty _ _ _ c.in_ok-runs.runs.ok.0 c.is_empty.ensures (one_there c.in_ok-runs.runs.items o)))

pub returns-clause-entered : goal.returns-clause-entered
returns-clause-entered g c = λ h. c.in_ok-take_all.ensures.entered (c.in_ok-runs.ensures.entered h)

pub returns-in_err-runs-clause-unedited : goal.returns-in_err-runs-clause-unedited
returns-in_err-runs-clause-unedited g c = c.advance_all.ensures.unedited

pub returns-in_err-done-clause-unedited : goal.returns-in_err-done-clause-unedited
returns-in_err-done-clause-unedited g c = c.advance_all.ensures.unedited

pub returns-in_err-take_all-clause-unedited : goal.returns-in_err-take_all-clause-unedited
returns-in_err-take_all-clause-unedited g c = c.advance_all.ensures.unedited

pub returns-clause-unedited : goal.returns-clause-unedited
returns-clause-unedited g c = c.advance_all.ensures.unedited
