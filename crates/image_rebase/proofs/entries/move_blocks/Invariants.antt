use Rattle.std.proofs.Common.{◌≡◌, length}
use Rattle.image_rebase.specs.Moves.{moved_blocks}
use Rattle.image_rebase.proofs.entries.move_blocks.Given as goal

abbrev pub invariant-loop-left : goal.invariant-loop-left
invariant-loop-left l =
    moved_blocks l.place l.skip l.by l.directory l.blocks l.fn.content.items ≡ moved_blocks l.place l.skip l.by l.directory l.left l.content.items

abbrev pub decreases-loop-left : goal.decreases-loop-left
decreases-loop-left l = length l.left
