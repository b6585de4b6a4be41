use Rattle.std.proofs.Common.{◌≡◌, length}
use Rattle.build_base.specs.First.{with_front}
use Rattle.image_rebase.specs.Files.{moved_from}
use Rattle.image_rebase.proofs.sections.move_from.Given as goal

abbrev pub invariant-loop-left : goal.invariant-loop-left
invariant-loop-left l =
    moved_from l.place l.base l.address l.body 0 l.sections ≡ with_front l.out.items (moved_from l.place l.base l.address l.body l.at l.left)

abbrev pub decreases-loop-left : goal.decreases-loop-left
decreases-loop-left l = length l.left
