-- The first asks are answered.
use Rattle.std.proofs.Common.{◌≡◌, []}
use Rattle.step_engine.specs.Build.{HasReadUnedited}
use Rattle.step_engine.specs.Edits.{over}
use Rattle.step_engine.specs.Engine.{state}
use Rattle.step_engine.specs.Reading.{knowledge}
use Rattle.step_engine.specs.Loops.{IsUnderWay, IsAnswering}
use Rattle.step_engine.specs.Standing.{setting_of}
use Rattle.step_engine.proofs.answers.answers.Given as goal

abbrev pub invariant-loop-ask : goal.invariant-loop-ask
invariant-loop-ask g l =
    let s = setting_of g.R.Rules.means l.fn.fixed (g.T.Tree.held l.fn.tree) in
    let y = state l.fn.fresh.items (knowledge g.R.Key.Ord.cmp l.learned) [] (g.T.Tree.reads l.tree) in record {
      held : g.T.Tree.held l.tree ≡ g.T.Tree.held l.fn.tree;
      way : IsUnderWay s l.key (over l.fn.fixed.edits.now (g.T.Tree.held l.tree)) (g.T.Tree.faults l.fn.tree) (g.T.Tree.faults l.tree) (state l.fn.fresh.items (knowledge g.R.Key.Ord.cmp l.fn.learned) [] (g.T.Tree.reads l.fn.tree)) y;
      unedited : HasReadUnedited l.fn.fixed.edits.now (g.T.Tree.reads l.fn.tree) (g.T.Tree.reads l.tree);
      here : IsAnswering s l.ask-items l.ask-index y l.pairs;
    }
