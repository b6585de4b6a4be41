use Rattle.std.proofs.Common.{◌≡◌, length, map}
use Rattle.job_fields.specs.Readings.{arch_in, each_there}
use Rattle.job_fields.proofs.EachLemmas.{in_front}
use Rattle.job_fields.proofs.readings.each_arch.Given as goal

abbrev pub invariant-loop-left : goal.invariant-loop-left
invariant-loop-left l = in_front l.arches (each_there (map arch_in l.left)) ≡ each_there (map arch_in l.texts)

abbrev pub decreases-loop-left : goal.decreases-loop-left
decreases-loop-left l = length l.left
