-- The answer to one ask.
use Rattle.std.proofs.Common.{refl}
use Rattle.step_engine.proofs.Moves.{adds_none, moves_none}
use Rattle.step_engine.proofs.Steps.{adds_read, answered_field, answered_file, answered_part, file_asked}
use Rattle.step_engine.proofs.Asking.{still_none}
use Rattle.step_engine.proofs.UneditedLemmas.{unedited_none}
use Rattle.step_engine.proofs.answers.answer.Goals as goal

pub returns-in_err-answer-in-File-clause-adds : goal.returns-in_err-answer-in-File-clause-adds
returns-in_err-answer-in-File-clause-adds g c =
    let laws = g.met.R.Rules g.world.𝓛 g.world.𝓜 g.world.𝓡 ((λ s x. x), (λ x. x), (λ x. x), λ x. x) in
    adds_read _ _ _ _ _ (λ w i. file_asked _ laws.lawful w _ _ _ (c.requires.next w i) c.in-File.is) c.read_once.ensures.read

pub returns-in_ok-answer-in-File-clause-adds : goal.returns-in_ok-answer-in-File-clause-adds
returns-in_ok-answer-in-File-clause-adds g c =
    let laws = g.met.R.Rules g.world.𝓛 g.world.𝓜 g.world.𝓡 ((λ s x. x), (λ x. x), (λ x. x), λ x. x) in
    adds_read _ _ _ _ _ (λ w i. file_asked _ laws.lawful w _ _ _ (c.requires.next w i) c.in-File.is) c.read_once.ensures.read

pub returns-in_ok-answer-in-File-clause-ok : goal.returns-in_ok-answer-in-File-clause-ok
returns-in_ok-answer-in-File-clause-ok g c =
    let laws = g.met.R.Rules g.world.𝓛 g.world.𝓜 g.world.𝓡 ((λ s x. x), (λ x. x), (λ x. x), λ x. x) in
    rw c.in-File.is (answered_file _ _ _ _ _ _ refl (λ w i. file_asked _ laws.lawful w _ _ _ (c.requires.next w i) c.in-File.is) c.read_once.ensures.read c.requires.kept refl c.in_ok-answer-in-File.ensures.ok)

pub returns-in_err-field-in-Field-clause-adds : goal.returns-in_err-field-in-Field-clause-adds
returns-in_err-field-in-Field-clause-adds g c = adds_none _ _ _

pub returns-in_ok-field-in-Field-clause-adds : goal.returns-in_ok-field-in-Field-clause-adds
returns-in_ok-field-in-Field-clause-adds g c = adds_none _ _ _

pub returns-in_ok-field-in-Field-clause-ok : goal.returns-in_ok-field-in-Field-clause-ok
returns-in_ok-field-in-Field-clause-ok g c = rw c.in-Field.is (answered_field _ _ _ _ _ c.requires.kept c.in_ok-field-in-Field.ensures)

pub returns-in_err-copy-in-Some-clause-adds : goal.returns-in_err-copy-in-Some-clause-adds
returns-in_err-copy-in-Some-clause-adds g c = adds_none _ _ _

pub returns-in_ok-copy-in-Some-clause-adds : goal.returns-in_ok-copy-in-Some-clause-adds
returns-in_ok-copy-in-Some-clause-adds g c = adds_none _ _ _

pub returns-in_ok-copy-in-Some-clause-ok : goal.returns-in_ok-copy-in-Some-clause-ok
returns-in_ok-copy-in-Some-clause-ok g c = rw (c.in-Part.is, c.in_ok-copy-in-Some.ensures) (answered_part _ _ _ _ _ _ (moves_none _ _ _) c.requires.kept c.in-Some.ensures.some)

pub returns-in-None-clause-adds : goal.returns-in-None-clause-adds
returns-in-None-clause-adds g c = adds_none _ _ _

pub returns-in-None-clause-ok : goal.returns-in-None-clause-ok
returns-in-None-clause-ok g c = still_none _ _ _ c.requires.kept

pub returns-in_err-answer-in-File-clause-unedited : goal.returns-in_err-answer-in-File-clause-unedited
returns-in_err-answer-in-File-clause-unedited g c = c.read_once.ensures.unedited

pub returns-in_ok-answer-in-File-clause-unedited : goal.returns-in_ok-answer-in-File-clause-unedited
returns-in_ok-answer-in-File-clause-unedited g c = c.read_once.ensures.unedited

pub returns-in_err-field-in-Field-clause-unedited : goal.returns-in_err-field-in-Field-clause-unedited
returns-in_err-field-in-Field-clause-unedited g c = unedited_none _ _

pub returns-in_ok-field-in-Field-clause-unedited : goal.returns-in_ok-field-in-Field-clause-unedited
returns-in_ok-field-in-Field-clause-unedited g c = unedited_none _ _

pub returns-in_err-copy-in-Some-clause-unedited : goal.returns-in_err-copy-in-Some-clause-unedited
returns-in_err-copy-in-Some-clause-unedited g c = unedited_none _ _

pub returns-in_ok-copy-in-Some-clause-unedited : goal.returns-in_ok-copy-in-Some-clause-unedited
returns-in_ok-copy-in-Some-clause-unedited g c = unedited_none _ _

pub returns-in-None-clause-unedited : goal.returns-in-None-clause-unedited
returns-in-None-clause-unedited g c = unedited_none _ _
