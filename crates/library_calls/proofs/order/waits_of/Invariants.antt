use Rattle.std.proofs.Common.{◌≡◌, map, take}
use Rattle.library_calls.specs.Calls.{before}
use Rattle.library_calls.specs.Waiting.{wait_of}
use Rattle.library_calls.proofs.order.waits_of.Given as goal

abbrev pub invariant-loop-x : goal.invariant-loop-x
invariant-loop-x l = l.all.items ≡ map (wait_of (before l.rows) l.left) (take l.x-index l.left)
