use Rattle.std.proofs.Common.{◌≡◌, ◌++◌, length}
use Rattle.std.specs.List.{flat_map}
use Rattle.text_steps.specs.DepexNames.{used_by}
use Rattle.text_steps.proofs.depex.used_of.Given as goal

abbrev pub invariant-loop-left : goal.invariant-loop-left
invariant-loop-left l =
    l.names ++ flat_map (used_by l.marks l.arch l.decs) l.left ≡ flat_map (used_by l.marks l.arch l.decs) l.packages

abbrev pub decreases-loop-left : goal.decreases-loop-left
decreases-loop-left l = length l.left
