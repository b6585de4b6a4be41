use Rattle.std.proofs.Common.{◌≡◌, length, map}
use Rattle.job_fields.specs.Readings.{each_there, set_in}
use Rattle.job_fields.proofs.EachLemmas.{in_front}
use Rattle.job_fields.proofs.readings.each_set.Given as goal

abbrev pub invariant-loop-left : goal.invariant-loop-left
invariant-loop-left l = in_front l.sets (each_there (map (set_in l.at) l.left)) ≡ each_there (map (set_in l.at) l.texts)

abbrev pub decreases-loop-left : goal.decreases-loop-left
decreases-loop-left l = length l.left
