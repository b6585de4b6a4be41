use Rattle.std.proofs.Common.{◌≡◌, ◌≤◌, ◌+◌, ◌-◌, ◌%◌, length, drop}
use Rattle.fv_compose.specs.Header.{words_sum}
use Rattle.fv_compose.proofs.header.words_sum.Given as goal

abbrev pub invariant-loop-i : goal.invariant-loop-i
invariant-loop-i l = record {
  within : l.i ≤ length l.bytes;
  sum : words_sum l.bytes % 65536 ≡ (l.total + words_sum (drop l.i l.bytes)) % 65536;
}

abbrev pub decreases-loop-i : goal.decreases-loop-i
decreases-loop-i l = length l.bytes - l.i
