use Rattle.std.proofs.Common.{◌≡◌, ◌++◌, map, length}
use Rattle.text_steps.specs.DepexNames.{lean_group}
use Rattle.text_steps.proofs.depex.each_group.Given as goal

abbrev pub invariant-loop-left : goal.invariant-loop-left
invariant-loop-left l =
    l.groups ++ map (lean_group l.arch l.kind l.decs) l.left ≡ map (lean_group l.arch l.kind l.decs) l.infs

abbrev pub decreases-loop-left : goal.decreases-loop-left
decreases-loop-left l = length l.left
