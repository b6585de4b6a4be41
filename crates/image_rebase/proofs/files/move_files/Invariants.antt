use Rattle.std.proofs.Common.{◌≡◌, length}
use Rattle.build_base.specs.First.{with_front}
use Rattle.image_rebase.specs.Files.{moved_files}
use Rattle.image_rebase.proofs.files.move_files.Given as goal

abbrev pub invariant-loop-left : goal.invariant-loop-left
invariant-loop-left l =
    moved_files l.ffs3 l.base l.files l.starts ≡ with_front l.moved (moved_files l.ffs3 l.base l.left l.places)

abbrev pub decreases-loop-left : goal.decreases-loop-left
decreases-loop-left l = length l.left
