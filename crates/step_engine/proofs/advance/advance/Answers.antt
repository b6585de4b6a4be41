-- One step forward.
use Rattle.std.proofs.Common.{refl}
use Rattle.step_engine.proofs.Acting.{notes_none, notes_read, noted_of, act_noted, adv_asked, adv_right, adv_wrong, adv_next}
use Rattle.step_engine.specs.declared.places.Place.TheVariants.{Checking}
use Rattle.step_engine.specs.Standing.{state_of}
use Rattle.step_engine.proofs.ForwardLemmas.{goes_still, goes_made, goes_same, goes_rerun, later_goes, enters_made, enters_later}
use Rattle.step_engine.proofs.ActLemmas.{acts_run, acts_more}
use Rattle.step_engine.proofs.UneditedLemmas.{unedited_none}
use Rattle.step_engine.proofs.advance.advance.Goals as goal

pub returns-in-Run-clause-notes : goal.returns-in-Run-clause-notes
returns-in-Run-clause-notes g c = notes_none _ _ _ _

pub returns-in_err-item-in-Asked-clause-notes : goal.returns-in_err-item-in-Asked-clause-notes
returns-in_err-item-in-Asked-clause-notes g c =
    let y = state_of g.R.Key.Ord.cmp c.args.progress.now c.args.book.now (g.T.Tree.reads c.args.tree.now) in
    rw c.in-Asked.is (notes_read _ _ y _ _ _ c.resume.ensures.adds)

pub returns-in_ok-item-in-Asked-clause-notes : goal.returns-in_ok-item-in-Asked-clause-notes
returns-in_ok-item-in-Asked-clause-notes g c =
    let y = state_of g.R.Key.Ord.cmp c.args.progress.now c.args.book.now (g.T.Tree.reads c.args.tree.now) in
    rw c.in-Asked.is (notes_read _ _ y _ _ _ c.resume.ensures.adds)

pub returns-in_ok-item-in-Asked-clause-ok : goal.returns-in_ok-item-in-Asked-clause-ok
returns-in_ok-item-in-Asked-clause-ok g c =
    let y = state_of g.R.Key.Ord.cmp c.args.progress.now c.args.book.now (g.T.Tree.reads c.args.tree.now) in
    rw c.in-Asked.is (adv_asked _ _ y _ _ _ c.requires.ready _ c.in_ok-item-in-Asked.ensures.ok)

pub returns-in_err-checked-in-Check-clause-notes : goal.returns-in_err-checked-in-Check-clause-notes
returns-in_err-checked-in-Check-clause-notes g c =
    let y = state_of g.R.Key.Ord.cmp c.args.progress.now c.args.book.now (g.T.Tree.reads c.args.tree.now) in
    rw c.in-Check.is (notes_read _ _ y _ _ _ c.check_next.ensures.adds)

pub returns-in_err-make_old-in-Right-clause-notes : goal.returns-in_err-make_old-in-Right-clause-notes
returns-in_err-make_old-in-Right-clause-notes g c =
    let y = state_of g.R.Key.Ord.cmp c.args.progress.now c.args.book.now (g.T.Tree.reads c.args.tree.now) in
    rw c.in-Check.is (λ top x q w. noted_of _ _ _ _ _ refl refl (notes_read _ _ y _ _ _ c.check_next.ensures.adds top x q w))

pub returns-in_ok-make_old-in-Right-clause-notes : goal.returns-in_ok-make_old-in-Right-clause-notes
returns-in_ok-make_old-in-Right-clause-notes g c =
    let y = state_of g.R.Key.Ord.cmp c.args.progress.now c.args.book.now (g.T.Tree.reads c.args.tree.now) in
    rw c.in-Check.is (λ top x q w. noted_of _ _ _ _ _ refl refl (notes_read _ _ y _ _ _ c.check_next.ensures.adds top x q w))

pub returns-in_ok-make_old-in-Right-clause-ok : goal.returns-in_ok-make_old-in-Right-clause-ok
returns-in_ok-make_old-in-Right-clause-ok g c =
    let y = state_of g.R.Key.Ord.cmp c.args.progress.now c.args.book.now (g.T.Tree.reads c.args.tree.now) in
    rw c.in-Check.is (adv_right _ _ y _ _ _ c.requires.ready _ _ _ (rw c.in-Right.is at c.in_ok-checked-in-Check.ensures.ok) c.in_ok-make_old-in-Right.ensures.made)

pub returns-in_err-item-in-Wrong-clause-notes : goal.returns-in_err-item-in-Wrong-clause-notes
returns-in_err-item-in-Wrong-clause-notes g c =
    let y = state_of g.R.Key.Ord.cmp c.args.progress.now c.args.book.now (g.T.Tree.reads c.args.tree.now) in
    rw (c.in-Check.is, c.in_err-item-in-Wrong.ensures.err) (notes_read _ _ y _ _ _ c.check_next.ensures.adds)

pub returns-in_ok-item-in-Wrong-clause-notes : goal.returns-in_ok-item-in-Wrong-clause-notes
returns-in_ok-item-in-Wrong-clause-notes g c =
    let y = state_of g.R.Key.Ord.cmp c.args.progress.now c.args.book.now (g.T.Tree.reads c.args.tree.now) in
    let d = adv_wrong _ _ y _ _ _ c.requires.ready _ _ _ _ (rw c.in-Wrong.is at c.in_ok-checked-in-Check.ensures.ok) c.in_ok-item-in-Wrong.ensures.ok in
    rw c.in-Check.is (act_noted _ _ _ _ _ _ d.act)

pub returns-in_ok-item-in-Wrong-clause-ok : goal.returns-in_ok-item-in-Wrong-clause-ok
returns-in_ok-item-in-Wrong-clause-ok g c =
    let y = state_of g.R.Key.Ord.cmp c.args.progress.now c.args.book.now (g.T.Tree.reads c.args.tree.now) in
    rw c.in-Check.is (adv_wrong _ _ y _ _ _ c.requires.ready _ _ _ _ (rw c.in-Wrong.is at c.in_ok-checked-in-Check.ensures.ok) c.in_ok-item-in-Wrong.ensures.ok)

pub returns-in-Next-clause-notes : goal.returns-in-Next-clause-notes
returns-in-Next-clause-notes g c =
    let y = state_of g.R.Key.Ord.cmp c.args.progress.now c.args.book.now (g.T.Tree.reads c.args.tree.now) in
    rw c.in-Check.is (notes_read _ _ y _ _ _ c.check_next.ensures.adds)

pub returns-in-Next-clause-ok : goal.returns-in-Next-clause-ok
returns-in-Next-clause-ok g c =
    let y = state_of g.R.Key.Ord.cmp c.args.progress.now c.args.book.now (g.T.Tree.reads c.args.tree.now) in
    rw c.in-Check.is (adv_next _ _ y _ _ _ c.requires.ready _ (rw c.in-Next.is at c.in_ok-checked-in-Check.ensures.ok))

pub returns-in-Run-clause-goes : goal.returns-in-Run-clause-goes
returns-in-Run-clause-goes g c = rw c.in-Run.is (goes_still _ _ _ _ _ (refl, refl))

pub returns-in-Run-clause-acts : goal.returns-in-Run-clause-acts
returns-in-Run-clause-acts g c = acts_run _ _ _ _ _ c.in-Run.is

pub returns-in-Run-clause-entered : goal.returns-in-Run-clause-entered
returns-in-Run-clause-entered g c = λ h. h

pub returns-in_ok-item-in-Asked-clause-goes : goal.returns-in_ok-item-in-Asked-clause-goes
returns-in_ok-item-in-Asked-clause-goes g c = rw c.in-Asked.is (goes_still _ _ _ _ _ (c.in_ok-item-in-Asked.ensures.ok.key, c.in_ok-item-in-Asked.ensures.at))

pub returns-in_ok-item-in-Asked-clause-acts : goal.returns-in_ok-item-in-Asked-clause-acts
returns-in_ok-item-in-Asked-clause-acts g c = acts_more _ _ _ _ _ _ _ c.in-Asked.is c.in_ok-item-in-Asked.ensures.acts

pub returns-in_ok-item-in-Asked-clause-entered : goal.returns-in_ok-item-in-Asked-clause-entered
returns-in_ok-item-in-Asked-clause-entered g c = λ h. h

pub returns-in_ok-make_old-in-Right-clause-goes : goal.returns-in_ok-make_old-in-Right-clause-goes
returns-in_ok-make_old-in-Right-clause-goes g c =
    let o = rw c.in-Right.is at c.in_ok-checked-in-Check.ensures.ok in
    rw c.in-Check.is (goes_same _ _ _ _ _ _ _ _ o.outcome.1 (goes_made Checking c.in-Right.entry _ _ _ _ _ c.in_ok-make_old-in-Right.ensures.made c.in_ok-make_old-in-Right.ensures.done))

pub returns-in_ok-make_old-in-Right-clause-acts : goal.returns-in_ok-make_old-in-Right-clause-acts
returns-in_ok-make_old-in-Right-clause-acts g c = acts_more _ _ _ _ _ _ _ c.in-Check.is c.in_ok-checked-in-Check.ensures.acts

pub returns-in_ok-make_old-in-Right-clause-entered : goal.returns-in_ok-make_old-in-Right-clause-entered
returns-in_ok-make_old-in-Right-clause-entered g c = enters_made Checking c.in-Right.entry _ _ _ _ c.in_ok-make_old-in-Right.ensures.made

pub returns-in_ok-item-in-Wrong-clause-goes : goal.returns-in_ok-item-in-Wrong-clause-goes
returns-in_ok-item-in-Wrong-clause-goes g c =
    let o = rw c.in-Wrong.is at c.in_ok-checked-in-Check.ensures.ok in
    rw c.in-Check.is (goes_same _ _ _ _ _ _ _ _ o.outcome.1 (goes_rerun c.in-Wrong.key _ _ _ _ _ c.in_ok-item-in-Wrong.item c.in_ok-item-in-Wrong.ensures.ok c.in_ok-item-in-Wrong.ensures.runs))

pub returns-in_ok-item-in-Wrong-clause-acts : goal.returns-in_ok-item-in-Wrong-clause-acts
returns-in_ok-item-in-Wrong-clause-acts g c = acts_more _ _ _ _ _ _ _ c.in-Check.is c.in_ok-checked-in-Check.ensures.acts

pub returns-in_ok-item-in-Wrong-clause-entered : goal.returns-in_ok-item-in-Wrong-clause-entered
returns-in_ok-item-in-Wrong-clause-entered g c = enters_later 0 0 _ _ _ (later_goes c.in-Wrong.key Checking 0 0 _ _ _ tt (goes_rerun c.in-Wrong.key 0 _ _ _ _ c.in_ok-item-in-Wrong.item c.in_ok-item-in-Wrong.ensures.ok c.in_ok-item-in-Wrong.ensures.runs))

pub returns-in-Next-clause-goes : goal.returns-in-Next-clause-goes
returns-in-Next-clause-goes g c =
    let o = rw c.in-Next.is at c.in_ok-checked-in-Check.ensures.ok in
    rw c.in-Check.is (goes_still _ _ _ _ _ (o.outcome.1, refl))

pub returns-in-Next-clause-acts : goal.returns-in-Next-clause-acts
returns-in-Next-clause-acts g c = acts_more _ _ _ _ _ _ _ c.in-Check.is c.in_ok-checked-in-Check.ensures.acts

pub returns-in-Next-clause-entered : goal.returns-in-Next-clause-entered
returns-in-Next-clause-entered g c = λ h. h

pub returns-in-Run-clause-unedited : goal.returns-in-Run-clause-unedited
returns-in-Run-clause-unedited g c = unedited_none _ _

pub returns-in_err-item-in-Asked-clause-unedited : goal.returns-in_err-item-in-Asked-clause-unedited
returns-in_err-item-in-Asked-clause-unedited g c = c.resume.ensures.unedited

pub returns-in_ok-item-in-Asked-clause-unedited : goal.returns-in_ok-item-in-Asked-clause-unedited
returns-in_ok-item-in-Asked-clause-unedited g c = c.resume.ensures.unedited

pub returns-in_err-checked-in-Check-clause-unedited : goal.returns-in_err-checked-in-Check-clause-unedited
returns-in_err-checked-in-Check-clause-unedited g c = c.check_next.ensures.unedited

pub returns-in_err-make_old-in-Right-clause-unedited : goal.returns-in_err-make_old-in-Right-clause-unedited
returns-in_err-make_old-in-Right-clause-unedited g c = c.check_next.ensures.unedited

pub returns-in_ok-make_old-in-Right-clause-unedited : goal.returns-in_ok-make_old-in-Right-clause-unedited
returns-in_ok-make_old-in-Right-clause-unedited g c = c.check_next.ensures.unedited

pub returns-in_err-item-in-Wrong-clause-unedited : goal.returns-in_err-item-in-Wrong-clause-unedited
returns-in_err-item-in-Wrong-clause-unedited g c = c.check_next.ensures.unedited

pub returns-in_ok-item-in-Wrong-clause-unedited : goal.returns-in_ok-item-in-Wrong-clause-unedited
returns-in_ok-item-in-Wrong-clause-unedited g c = c.check_next.ensures.unedited

pub returns-in-Next-clause-unedited : goal.returns-in-Next-clause-unedited
returns-in-Next-clause-unedited g c = c.check_next.ensures.unedited
