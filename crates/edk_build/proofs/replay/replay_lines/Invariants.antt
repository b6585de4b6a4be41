use Rattle.std.proofs.Common.{◌≡◌, ◌+◌, ◌≤◌, ℕ, List, [], Option, length}
use Rattle.edk_build.proofs.ReplayLemmas.{SoFar}
use Rattle.edk_build.specs.ReplayReads.{LinesRead, edited_paths}
use Rattle.edk_build.proofs.replay.replay_lines.Given as goal

abbrev pub invariant-loop-left : goal.invariant-loop-left
invariant-loop-left g l = record {
  so_far : SoFar (g.T.Tree.held l.fn.tree) l.lines l.left l.stand l.fn.book l.book (g.S.Sink.written l.fn.sink) (g.S.Sink.written l.sink);
  few : l.stand.builds + length l.left ≤ 1000;
  read : (b : Option (List (List ℕ))) → LinesRead (edited_paths l.stand) l.left (g.T.Tree.reads l.tree) b → LinesRead [] l.lines (g.T.Tree.reads l.fn.tree) b;
  held : g.T.Tree.held l.tree ≡ g.T.Tree.held l.fn.tree;
  tree_count : g.T.Tree.faults l.tree ≡ g.T.Tree.faults l.fn.tree;
  sink_count : g.S.Sink.faults l.sink ≡ g.S.Sink.faults l.fn.sink;
}

abbrev pub decreases-loop-left : goal.decreases-loop-left
decreases-loop-left g l = length l.left
