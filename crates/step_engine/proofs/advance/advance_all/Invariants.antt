-- The first keys under way have made a step.
use Rattle.std.proofs.Common.{◌≡◌, ◌⊎◌, ◌≤◌, Contains, length}
use Rattle.step_engine.specs.Build.{HasReadUnedited}
use Rattle.step_engine.specs.Table.{place_at}
use Rattle.step_engine.specs.Items.{AreItemsWanted}
use Rattle.step_engine.specs.Taking.{IsList}
use Rattle.step_engine.specs.Forward.{HasItem, HasRun, GoesOn, Enters}
use Rattle.step_engine.specs.declared.items.Item.{Item}
use Rattle.step_engine.specs.Standing.{setting_of, state_of}
use Rattle.step_engine.proofs.ActLemmas.{Moved}
use Rattle.step_engine.proofs.advance.advance_all.Given as goal

abbrev pub invariant-loop-item : goal.invariant-loop-item
invariant-loop-item g l =
    let s = setting_of g.R.Rules.means l.fn.fixed (g.T.Tree.held l.fn.tree) in
    let y = state_of g.R.Key.Ord.cmp l.fn.progress l.fn.book (g.T.Tree.reads l.fn.tree) in
    let z = state_of g.R.Key.Ord.cmp l.progress l.book (g.T.Tree.reads l.tree) in record {
      held : g.T.Tree.held l.tree ≡ g.T.Tree.held l.fn.tree;
      count : g.T.Tree.faults l.tree ≡ g.T.Tree.faults l.fn.tree;
      unedited : HasReadUnedited l.fn.fixed.edits.now (g.T.Tree.reads l.fn.tree) (g.T.Tree.reads l.tree);
      here : IsList s y z (place_at g.R.Key.Ord.cmp l.fn.progress.places) (place_at g.R.Key.Ord.cmp l.progress.places) (λ top. AreItemsWanted s top l.fn.items.items) l.runs.items l.rest.items;
      goes : GoesOn g.row.R-Out.Denot g.R.Key.Ord.cmp (length l.fn.progress.fresh.items) (length l.progress.fresh.items) (place_at g.R.Key.Ord.cmp l.fn.progress.places) (place_at g.R.Key.Ord.cmp l.progress.places) (HasItem l.fn.items.items) (λ k p. HasItem l.item-iterator.rest.items k p ⊎ (HasRun l.runs.items k p ⊎ HasItem l.rest.items k p));
      grows : l.fn.acts ≤ l.acts;
      moved : Moved g.R.Rules.means.rank (place_at g.R.Key.Ord.cmp l.fn.progress.places) l.fn.items.items l.item-iterator.rest.items l.fn.acts l.acts l.runs.items;
      entered : Enters (place_at g.R.Key.Ord.cmp l.fn.progress.places) (place_at g.R.Key.Ord.cmp l.progress.places) l.fn.progress.fresh.items l.progress.fresh.items;
      left : (a : Item _ _) → Contains l.item-iterator.rest.items a → Contains l.fn.items.items a;
    }
