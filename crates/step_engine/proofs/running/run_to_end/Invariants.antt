-- What the loop keeps.
use Rattle.std.proofs.Common.{◌≡◌, ◌-◌}
use Rattle.step_engine.specs.Build.{HasReadUnedited}
use Rattle.step_engine.specs.Table.{place_at}
use Rattle.step_engine.specs.Settling.{IsSettling}
use Rattle.step_engine.specs.Forward.{IsMet, IsWhole, AreEntered}
use Rattle.step_engine.specs.Standing.{setting_of, state_of}
use Rattle.step_engine.proofs.running.run_to_end.Given as goal

abbrev pub invariant-loop-tally : goal.invariant-loop-tally
invariant-loop-tally g l =
    let s = setting_of g.R.Rules.means l.fn.fixed (g.T.Tree.held l.fn.tree) in
    let y = state_of g.R.Key.Ord.cmp l.fn.progress l.fn.book (g.T.Tree.reads l.fn.tree) in
    let z = state_of g.R.Key.Ord.cmp l.progress l.book (g.T.Tree.reads l.tree) in record {
      held : g.T.Tree.held l.tree ≡ g.T.Tree.held l.fn.tree;
      count : g.T.Tree.faults l.tree ≡ g.T.Tree.faults l.fn.tree;
      unedited : HasReadUnedited l.fn.fixed.edits.now (g.T.Tree.reads l.fn.tree) (g.T.Tree.reads l.tree);
      here : IsSettling g.R.Key.Ord.cmp s l.fn.top y z (place_at g.R.Key.Ord.cmp l.fn.progress.places) (place_at g.R.Key.Ord.cmp l.progress.places) l.pool;
      whole : IsWhole g.R.Key.Ord.cmp g.R.Rules.means.rank (place_at g.R.Key.Ord.cmp l.progress.places) l.pool;
      entered : AreEntered (place_at g.R.Key.Ord.cmp l.progress.places) l.progress.fresh.items;
      met : IsMet (place_at g.R.Key.Ord.cmp l.progress.places l.fn.top);
    }

abbrev pub decreases-loop-tally : goal.decreases-loop-tally
decreases-loop-tally g l = 18446744073709551615 - l.tally.acts
