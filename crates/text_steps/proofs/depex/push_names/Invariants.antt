use Rattle.std.proofs.Common.{◌≡◌, ◌++◌, length}
use Rattle.std.specs.Prelude.{filter}
use Rattle.text_steps.specs.DepexNames.{is_used}
use Rattle.text_steps.proofs.depex.push_names.Given as goal

abbrev pub invariant-loop-left : goal.invariant-loop-left
invariant-loop-left l =
    l.names ++ filter (is_used l.marks l.arch) l.left ≡ l.fn.names ++ filter (is_used l.marks l.arch) l.lines

abbrev pub decreases-loop-left : goal.decreases-loop-left
decreases-loop-left l = length l.left
