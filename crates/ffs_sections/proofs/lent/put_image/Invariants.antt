use Rattle.std.proofs.Common.{◌≡◌, ◌++◌, length}
use Rattle.ffs_sections.proofs.lent.put_image.Given as goal

abbrev pub invariant-loop-piece : goal.invariant-loop-piece
invariant-loop-piece l = l.out.items ++ l.pieces ≡ l.fn.out.items ++ l.image

abbrev pub decreases-loop-piece : goal.decreases-loop-piece
decreases-loop-piece l = length l.pieces
