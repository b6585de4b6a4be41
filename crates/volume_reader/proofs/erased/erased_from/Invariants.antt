use Rattle.std.proofs.Common.{◌≤◌, length}
use Rattle.volume_reader.proofs.ErasedLemmas.{ErasedAfter}
use Rattle.volume_reader.proofs.erased.erased_from.Given as goal

abbrev pub invariant-loop-end : goal.invariant-loop-end
invariant-loop-end l = record {
  inside : l.end ≤ length l.bytes;
  after : ErasedAfter l.erase l.bytes l.end;
}

abbrev pub decreases-loop-end : goal.decreases-loop-end
decreases-loop-end l = l.end
