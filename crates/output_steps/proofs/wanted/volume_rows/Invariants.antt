use Rattle.std.proofs.Common.{◌≡◌, ◌++◌, map, length}
use Rattle.output_steps.specs.Wanted.{volume_name}
use Rattle.output_steps.proofs.wanted.volume_rows.Given as goal

abbrev pub invariant-loop-left : goal.invariant-loop-left
invariant-loop-left l = l.names ++ map volume_name l.left ≡ map volume_name l.plans

abbrev pub decreases-loop-left : goal.decreases-loop-left
decreases-loop-left l = length l.left
