use Rattle.std.proofs.Common.{◌≡◌, fold, length}
use Rattle.build_texts.specs.Named.{with_guids}
use Rattle.build_texts.proofs.names.mark_infs.Given as goal

abbrev pub invariant-loop-left : goal.invariant-loop-left
invariant-loop-left l = fold with_guids l.marks.items l.left ≡ fold with_guids l.fn.marks.items l.infs

abbrev pub decreases-loop-left : goal.decreases-loop-left
decreases-loop-left l = length l.left
