-- The next batch is checked.
use Rattle.std.proofs.Common.{refl, sym}
use Rattle.std.proofs.lemmas.Bool.{ltb-false}
use Rattle.step_engine.proofs.Moves.{adds_none}
use Rattle.step_engine.proofs.Asking.{still_none}
use Rattle.step_engine.proofs.Steps.{item_in}
use Rattle.step_engine.proofs.Advancing.{check_good, check_asks, check_more, check_stale}
use Rattle.step_engine.proofs.ActLemmas.{acts_counted}
use Rattle.step_engine.proofs.UneditedLemmas.{unedited_none}
use Rattle.step_engine.proofs.advance.check_next.Goals as goal

pub check_batch-requires-clause-next : goal.check_batch-requires-clause-next
check_batch-requires-clause-next g c =
    let a = rw (c.items.ensures, c.value-talk.ensures) at c.in-Some.ensures.lookup in
    λ κs q w i. check_asks _ _ c.args.check.entry c.args.check.batch c.requires.check c.in-Some.batch.now a.3.0 a.1 w i

pub check_batch-requires-clause-old : goal.check_batch-requires-clause-old
check_batch-requires-clause-old g c =
    let a = rw (c.items.ensures, c.value-talk.ensures) at c.in-Some.ensures.lookup in
    λ κs q p h. (c.args.check.entry, c.in-Some.batch.now, c.requires.check.old, item_in _ _ _ _ refl a.3.0 a.1, h)

pub returns-in-None-clause-adds : goal.returns-in-None-clause-adds
returns-in-None-clause-adds g c = adds_none _ _ _

pub returns-in-None-clause-ok : goal.returns-in-None-clause-ok
returns-in-None-clause-ok g c =
    let a = rw (c.items.ensures, c.value-talk.ensures) at c.in-None.ensures.lookup in
    record { still = still_none _ _ _ c.requires.kept; outcome = (check_good _ _ c.args.check.entry c.args.check.batch c.requires.check (ltb-false _ _ (sym a.0)), refl) }

pub returns-in-Some-true-clause-ok : goal.returns-in-Some-true-clause-ok
returns-in-Some-true-clause-ok g c =
    let a = rw (c.items.ensures, c.value-talk.ensures) at c.in-Some.ensures.lookup in
    let d = rw (c.in-Some-true.is, c.in-Some-true.field-0-test) at c.in_ok-found-in-Some.ensures.ok in
    record { still = record { moves = d.moves; kept = d.kept }; outcome = (check_more _ _ c.args.check.entry c.args.check.batch c.requires.check _ c.in-Some.batch.now a.3.0 a.1 d, refl) }

pub returns-in-Some-false-clause-ok : goal.returns-in-Some-false-clause-ok
returns-in-Some-false-clause-ok g c =
    let a = rw (c.items.ensures, c.value-talk.ensures) at c.in-Some.ensures.lookup in
    let d = rw (c.in-Some-false.is, c.in-Some-false.field-0-test) at c.in_ok-found-in-Some.ensures.ok in
    record { still = record { moves = d.moves; kept = d.kept }; outcome = (check_stale _ _ c.args.check.entry c.args.check.batch c.requires.check _ c.in-Some.batch.now a.3.0 a.1 d, refl) }

pub returns-in_err-found-in-Some-clause-held : goal.returns-in_err-found-in-Some-clause-held
returns-in_err-found-in-Some-clause-held g c = c.check_batch.ensures.held

pub returns-in_err-found-in-Some-clause-adds : goal.returns-in_err-found-in-Some-clause-adds
returns-in_err-found-in-Some-clause-adds g c = c.check_batch.ensures.adds

pub returns-in-Some-true-clause-held : goal.returns-in-Some-true-clause-held
returns-in-Some-true-clause-held g c = c.check_batch.ensures.held

pub returns-in-Some-true-clause-adds : goal.returns-in-Some-true-clause-adds
returns-in-Some-true-clause-adds g c = c.check_batch.ensures.adds

pub returns-in-Some-false-clause-held : goal.returns-in-Some-false-clause-held
returns-in-Some-false-clause-held g c = c.check_batch.ensures.held

pub returns-in-Some-false-clause-adds : goal.returns-in-Some-false-clause-adds
returns-in-Some-false-clause-adds g c = c.check_batch.ensures.adds

pub returns-in-None-clause-held : goal.returns-in-None-clause-held
returns-in-None-clause-held g c = refl

pub returns-in-None-clause-count : goal.returns-in-None-clause-count
returns-in-None-clause-count g c = refl

pub returns-in-Some-true-clause-count : goal.returns-in-Some-true-clause-count
returns-in-Some-true-clause-count g c = c.in_ok-found-in-Some.ensures.count

pub returns-in-Some-false-clause-count : goal.returns-in-Some-false-clause-count
returns-in-Some-false-clause-count g c = c.in_ok-found-in-Some.ensures.count

pub returns-in-None-clause-acts : goal.returns-in-None-clause-acts
returns-in-None-clause-acts g c = acts_counted _ _ _ _ _ c.count_act.ensures.grows (c.count_act.ensures.counts refl)

pub returns-in-Some-true-clause-acts : goal.returns-in-Some-true-clause-acts
returns-in-Some-true-clause-acts g c = acts_counted _ _ _ _ _ c.count_act-2.ensures.grows (c.count_act-2.ensures.counts (rw c.in-Some-true.is at c.is_some.ensures))

pub returns-in-Some-false-clause-acts : goal.returns-in-Some-false-clause-acts
returns-in-Some-false-clause-acts g c = acts_counted _ _ _ _ _ c.count_act-2.ensures.grows (c.count_act-2.ensures.counts (rw c.in-Some-false.is at c.is_some.ensures))

pub returns-in-None-clause-unedited : goal.returns-in-None-clause-unedited
returns-in-None-clause-unedited g c = unedited_none _ _

pub returns-in_err-found-in-Some-clause-unedited : goal.returns-in_err-found-in-Some-clause-unedited
returns-in_err-found-in-Some-clause-unedited g c = c.check_batch.ensures.unedited

pub returns-in-Some-true-clause-unedited : goal.returns-in-Some-true-clause-unedited
returns-in-Some-true-clause-unedited g c = c.check_batch.ensures.unedited

pub returns-in-Some-false-clause-unedited : goal.returns-in-Some-false-clause-unedited
returns-in-Some-false-clause-unedited g c = c.check_batch.ensures.unedited

pub returns-in-None-found-clause-unedited : goal.returns-in-None-found-clause-unedited
returns-in-None-found-clause-unedited g c = c.check_batch.ensures.unedited
