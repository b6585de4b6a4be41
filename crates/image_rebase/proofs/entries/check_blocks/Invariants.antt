use Rattle.std.proofs.Common.{◌≡◌, length}
use Rattle.image_rebase.specs.Moves.{blocks_fault}
use Rattle.image_rebase.proofs.entries.check_blocks.Given as goal

abbrev pub invariant-loop-left : goal.invariant-loop-left
invariant-loop-left l = blocks_fault l.place l.directory l.blocks ≡ blocks_fault l.place l.directory l.left

abbrev pub decreases-loop-left : goal.decreases-loop-left
decreases-loop-left l = length l.left
