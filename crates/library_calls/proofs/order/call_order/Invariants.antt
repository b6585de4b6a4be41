use Rattle.std.proofs.Common.{◌≡◌, ◌++◌, vec_len}
use Rattle.library_calls.specs.Calls.{before}
use Rattle.library_calls.specs.Order.{call_order}
use Rattle.library_calls.specs.Waiting.{waits_of, places_of}
use Rattle.library_calls.proofs.order.call_order.Given as goal

abbrev pub invariant-loop-place : goal.invariant-loop-place
invariant-loop-place l =
    (l.left.items ≡ waits_of (before l.rows) (places_of l.left.items))
    × (l.order ++ call_order (before l.rows) (places_of l.left.items) ≡ call_order (before l.rows) l.all)

abbrev pub decreases-loop-place : goal.decreases-loop-place
decreases-loop-place l = vec_len l.left
