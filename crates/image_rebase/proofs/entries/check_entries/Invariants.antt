use Rattle.std.proofs.Common.{◌≡◌, length}
use Rattle.image_rebase.specs.Blocks.{words_of}
use Rattle.image_rebase.specs.Moves.{types_fault}
use Rattle.image_rebase.proofs.entries.check_entries.Given as goal

abbrev pub invariant-loop-left : goal.invariant-loop-left
invariant-loop-left l = types_fault l.place (words_of l.entries) ≡ types_fault l.place (words_of l.left)

abbrev pub decreases-loop-left : goal.decreases-loop-left
decreases-loop-left l = length l.left
