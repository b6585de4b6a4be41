use Rattle.std.proofs.Common.{◌≡◌, ◌≤◌, ◌<◌, ◌%◌, ◌-◌, ◌+◌, ℕ, length, false}
use Rattle.volume_reader.proofs.FindLemmas.{stands}
use Rattle.volume_reader.proofs.find.find_volume.Given as goal

abbrev pub invariant-loop-at : goal.invariant-loop-at
invariant-loop-at l = record {
  whole : l.at % 16 ≡ 0;
  after : l.from ≤ l.at;
  near : l.at ≤ l.length + 15;
  none : (m : ℕ) → l.from ≤ m → m < l.at → stands l.bytes m ≡ false;
}

abbrev pub decreases-loop-at : goal.decreases-loop-at
decreases-loop-at l = l.length - l.at
