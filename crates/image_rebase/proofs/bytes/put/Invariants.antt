use Rattle.std.proofs.Common.{◌≡◌, ◌+◌, length}
use Rattle.image_rebase.specs.Bytes.{with_bytes}
use Rattle.image_rebase.proofs.bytes.put.Given as goal

abbrev pub invariant-loop-left : goal.invariant-loop-left
invariant-loop-left l = record {
  written : with_bytes l.at l.new l.fn.bytes.items ≡ with_bytes l.place l.left l.bytes.items;
  place : l.place + length l.left ≡ l.at + length l.new;
}

abbrev pub decreases-loop-left : goal.decreases-loop-left
decreases-loop-left l = length l.left
