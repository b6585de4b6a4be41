use Rattle.std.proofs.Common.{◌≤◌, ◌-◌, length}
use Rattle.volume_reader.proofs.HeldLemmas.{SoFar}
use Rattle.volume_reader.proofs.volume.held_from.Given as goal

abbrev pub invariant-loop-at : goal.invariant-loop-at
invariant-loop-at l = record {
  count : length l.files ≤ l.at;
  room : length l.files ≤ length l.volume;
  whole : SoFar l.ffs3 l.erase l.volume l.first l.files l.at;
}

abbrev pub decreases-loop-at : goal.decreases-loop-at
decreases-loop-at l = l.end - l.at
