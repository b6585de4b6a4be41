use Rattle.std.proofs.Common.{◌≡◌, ◌++◌, length}
use Rattle.std.specs.List.{flat_map}
use Rattle.text_steps.specs.DepexNames.{used_at}
use Rattle.text_steps.proofs.depex.push_each.Given as goal

abbrev pub invariant-loop-left : goal.invariant-loop-left
invariant-loop-left l =
    l.names ++ flat_map (used_at l.marks l.arch l.path) l.left ≡ l.fn.names ++ flat_map (used_at l.marks l.arch l.path) l.decs

abbrev pub decreases-loop-left : goal.decreases-loop-left
decreases-loop-left l = length l.left
