use Rattle.std.proofs.Common.{◌≡◌, ◌++◌, length}
use Rattle.std.specs.List.{flat_map}
use Rattle.library_calls.specs.Calls.{constructors_at}
use Rattle.library_calls.proofs.calls.constructors.Given as goal

abbrev pub invariant-loop-left : goal.invariant-loop-left
invariant-loop-left l = l.calls.items ++ flat_map (constructors_at l.callers) l.left ≡ flat_map (constructors_at l.callers) l.order

abbrev pub decreases-loop-left : goal.decreases-loop-left
decreases-loop-left l = length l.left
