-- What is got is that of the tree's files after the edits.
use Rattle.std.proofs.Common.{sym, ap, ◌∙◌}
use Rattle.std.specs.Option.{option_copied}
use Rattle.step_engine.proofs.EditLemmas.{got_edit, got_tree}
use Rattle.step_engine.proofs.UneditedLemmas.{unedited_none, unedited_one}
use Rattle.step_engine.proofs.read.see.Goals as goal

pub returns-in-Some-clause-got : goal.returns-in-Some-clause-got
returns-in-Some-clause-got g c = got_edit c.args.edits.now (g.T.Tree.held c.args.tree.now) _ _ _ (sym (ap option_copied c.in-Some.is) ∙ c.find.ensures) c.in_ok-of_edit.ensures

pub returns-in_ok-of-in-Ok-clause-got : goal.returns-in_ok-of-in-Ok-clause-got
returns-in_ok-of-in-Ok-clause-got g c =
    let got = rw (← c.in_ok-of-in-Ok.ensures) at c.in-Ok.ensures.got in
    got_tree c.args.edits.now (g.T.Tree.held c.args.tree.now) _ _ (sym (ap option_copied c.in_default.is) ∙ c.find.ensures) got

pub returns-in_err-of_edit-clause-unedited : goal.returns-in_err-of_edit-clause-unedited
returns-in_err-of_edit-clause-unedited g c = unedited_none _ _

pub returns-in-Some-clause-unedited : goal.returns-in-Some-clause-unedited
returns-in-Some-clause-unedited g c = unedited_none _ _

pub returns-in_err-of-in-Ok-clause-unedited : goal.returns-in_err-of-in-Ok-clause-unedited
returns-in_err-of-in-Ok-clause-unedited g c = unedited_one c.args.edits.now c.args.path.now _ _ (sym (ap option_copied c.in_default.is) ∙ c.find.ensures) c.in-Ok.ensures.reads_ok

pub returns-in_ok-of-in-Ok-clause-unedited : goal.returns-in_ok-of-in-Ok-clause-unedited
returns-in_ok-of-in-Ok-clause-unedited g c = unedited_one c.args.edits.now c.args.path.now _ _ (sym (ap option_copied c.in_default.is) ∙ c.find.ensures) c.in-Ok.ensures.reads_ok

pub returns-in-Err-Failed-clause-unedited : goal.returns-in-Err-Failed-clause-unedited
returns-in-Err-Failed-clause-unedited g c = rw c.in-Err-Failed.ensures.reads_err (unedited_none c.args.edits.now _)

pub returns-in-Err-WantOfMemory-clause-unedited : goal.returns-in-Err-WantOfMemory-clause-unedited
returns-in-Err-WantOfMemory-clause-unedited g c = rw c.in-Err-WantOfMemory.ensures.reads_err (unedited_none c.args.edits.now _)
