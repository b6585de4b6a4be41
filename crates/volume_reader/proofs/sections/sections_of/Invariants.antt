use Rattle.std.proofs.Common.{◌≤◌, ◌-◌, length}
use Rattle.volume_reader.proofs.SectionLemmas.{SoFar}
use Rattle.volume_reader.proofs.sections.sections_of.Given as goal

abbrev pub invariant-loop-at : goal.invariant-loop-at
invariant-loop-at l = record {
  inside : l.at ≤ length l.body;
  count : length l.rows ≤ l.at;
  whole : SoFar l.ffs3 l.place l.body l.rows l.at;
}

abbrev pub decreases-loop-at : goal.decreases-loop-at
decreases-loop-at l = length l.body - l.at
