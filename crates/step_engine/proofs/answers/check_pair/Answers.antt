-- The answer is compared with the right one.
use Rattle.std.proofs.Common.{[]}
use Rattle.step_engine.specs.Engine.{state}
use Rattle.step_engine.specs.Reading.{knowledge}
use Rattle.step_engine.proofs.Moves.{adds_compared}
use Rattle.step_engine.proofs.Asking.{checked_part}
use Rattle.step_engine.proofs.ActLemmas.{lacks_part}
use Rattle.step_engine.proofs.UneditedLemmas.{unedited_none}
use Rattle.step_engine.proofs.answers.check_pair.Goals as goal

pub returns-in_err-same-clause-adds : goal.returns-in_err-same-clause-adds
returns-in_err-same-clause-adds g c = adds_compared _ _ (state c.args.fresh.now.items (knowledge g.R.Key.Ord.cmp c.args.learned.now) [] (g.T.Tree.reads c.args.tree.now)) _

pub returns-in-Part-clause-adds : goal.returns-in-Part-clause-adds
returns-in-Part-clause-adds g c = adds_compared _ _ (state c.args.fresh.now.items (knowledge g.R.Key.Ord.cmp c.args.learned.now) [] (g.T.Tree.reads c.args.tree.now)) _

pub returns-in-Part-clause-ok : goal.returns-in-Part-clause-ok
returns-in-Part-clause-ok g c = checked_part _ _ _ _ (state c.args.fresh.now.items (knowledge g.R.Key.Ord.cmp c.args.learned.now) [] (g.T.Tree.reads c.args.tree.now)) _ c.in_ok-same.same c.requires.kept c.in_ok-same.ensures.compared c.in-Part.is c.in_ok-same.ensures.same

pub returns-in-Part-clause-none : goal.returns-in-Part-clause-none
returns-in-Part-clause-none g c = lacks_part _ _ _ c.in_ok-same.same c.in-Part.is c.in_ok-same.ensures.none

pub returns-in_err-same-clause-unedited : goal.returns-in_err-same-clause-unedited
returns-in_err-same-clause-unedited g c = unedited_none _ _

pub returns-in-Part-clause-unedited : goal.returns-in-Part-clause-unedited
returns-in-Part-clause-unedited g c = unedited_none _ _

pub returns-in_err-found-clause-unedited : goal.returns-in_err-found-clause-unedited
returns-in_err-found-clause-unedited g c = c.answer.ensures.unedited

pub returns-in-Some-clause-unedited : goal.returns-in-Some-clause-unedited
returns-in-Some-clause-unedited g c = c.answer.ensures.unedited

pub returns-in-None-clause-unedited : goal.returns-in-None-clause-unedited
returns-in-None-clause-unedited g c = c.answer.ensures.unedited
