use Rattle.std.proofs.Common.{◌≡◌, ◌++◌, length}
use Rattle.std.specs.List.{filter_map}
use Rattle.library_choice.specs.Closure.{null_of}
use Rattle.library_choice.proofs.tables.push_nulls.Given as goal

abbrev pub invariant-loop-left : goal.invariant-loop-left
invariant-loop-left l = l.paths ++ filter_map (null_of l.user) l.left ≡ l.fn.paths ++ filter_map (null_of l.user) l.lines

abbrev pub decreases-loop-left : goal.decreases-loop-left
decreases-loop-left l = length l.left
