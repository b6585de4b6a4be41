use Rattle.std.proofs.Common.{◌≡◌, ◌≤◌, ◌+◌, length}
use Rattle.image_rebase.proofs.BlockLemmas.{SoFar}
use Rattle.image_rebase.proofs.blocks.blocks_of.Given as goal

abbrev pub invariant-loop-left : goal.invariant-loop-left
invariant-loop-left l = record {
  count : length l.blocks ≤ l.at;
  whole : l.at + length l.left ≡ length l.directory;
  so : SoFar l.place l.directory l.blocks l.at l.left;
}

abbrev pub decreases-loop-left : goal.decreases-loop-left
decreases-loop-left l = length l.left
