use Rattle.std.proofs.Common.{◌≡◌, map, take}
use Rattle.library_calls.specs.Calls.{before}
use Rattle.library_calls.specs.Waiting.{without}
use Rattle.library_calls.proofs.order.all_without.Given as goal

abbrev pub invariant-loop-waiting : goal.invariant-loop-waiting
invariant-loop-waiting l = l.all.items ≡ map (without (before l.rows) l.y) (take l.waiting-index l.left)
