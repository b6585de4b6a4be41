use Rattle.std.proofs.Common.{◌≤◌, ◌-◌, length}
use Rattle.volume_reader.proofs.FoundLemmas.{SoFar}
use Rattle.volume_reader.proofs.listing.volumes.Given as goal

abbrev pub invariant-loop-at : goal.invariant-loop-at
invariant-loop-at l = record {
  count : length l.rows ≤ l.from;
  room : length l.rows ≤ length l.bytes;
  whole : SoFar l.bytes l.rows l.from;
}

abbrev pub decreases-loop-at : goal.decreases-loop-at
decreases-loop-at l = length l.bytes - l.from
