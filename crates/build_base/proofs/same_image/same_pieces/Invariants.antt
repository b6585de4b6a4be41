use Rattle.std.proofs.Common.{◌≡◌, ◌↔◌, ◌++◌, ◌+◌, length}
use Rattle.build_base.proofs.same_image.same_pieces.Given as goal

abbrev pub invariant-loop-left : goal.invariant-loop-left
invariant-loop-left l = (l.ours ++ l.left ≡ l.others ++ l.right) ↔ (l.fn.left ≡ l.fn.right)

abbrev pub decreases-loop-left : goal.decreases-loop-left
decreases-loop-left l = length l.ours + length l.left
