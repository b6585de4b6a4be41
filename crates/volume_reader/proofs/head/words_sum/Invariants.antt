use Rattle.std.proofs.Common.{◌≡◌, ◌+◌, ◌%◌, length}
use Rattle.fv_compose.specs.Header.{words_sum}
use Rattle.volume_reader.proofs.head.words_sum.Given as goal

abbrev pub invariant-loop-left : goal.invariant-loop-left
invariant-loop-left l = words_sum l.bytes % 65536 ≡ (l.total + words_sum l.left) % 65536

abbrev pub decreases-loop-left : goal.decreases-loop-left
decreases-loop-left l = length l.left
