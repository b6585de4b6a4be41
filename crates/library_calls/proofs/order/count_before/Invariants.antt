use Rattle.std.proofs.Common.{◌≡◌, ◌+◌, ◌≤◌, length}
use Rattle.library_calls.specs.Calls.{before}
use Rattle.library_calls.specs.Waiting.{count_before}
use Rattle.library_calls.proofs.order.count_before.Given as goal

abbrev pub invariant-loop-rest : goal.invariant-loop-rest
invariant-loop-rest l =
    (l.count + count_before (before l.rows) l.rest l.x ≡ count_before (before l.rows) l.left l.x)
    × (l.count + length l.rest ≤ length l.left)

abbrev pub decreases-loop-rest : goal.decreases-loop-rest
decreases-loop-rest l = length l.rest
