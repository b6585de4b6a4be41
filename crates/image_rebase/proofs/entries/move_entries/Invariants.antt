use Rattle.std.proofs.Common.{◌≡◌, length}
use Rattle.image_rebase.specs.Blocks.{words_of}
use Rattle.image_rebase.specs.Moves.{moved_entries}
use Rattle.image_rebase.proofs.entries.move_entries.Given as goal

abbrev pub invariant-loop-left : goal.invariant-loop-left
invariant-loop-left l =
    moved_entries l.place l.skip l.by l.page (words_of l.entries) l.fn.content.items ≡ moved_entries l.place l.skip l.by l.page (words_of l.left) l.content.items

abbrev pub decreases-loop-left : goal.decreases-loop-left
decreases-loop-left l = length l.left
