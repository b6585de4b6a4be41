use Rattle.std.proofs.Common.{◌≡◌, ◌++◌, length}
use Rattle.output_steps.specs.Wanted.{region_volumes}
use Rattle.output_steps.proofs.wanted.push_regions.Given as goal

abbrev pub invariant-loop-left : goal.invariant-loop-left
invariant-loop-left l = l.held ++ region_volumes l.left ≡ l.fn.held ++ region_volumes l.regions

abbrev pub decreases-loop-left : goal.decreases-loop-left
decreases-loop-left l = length l.left
