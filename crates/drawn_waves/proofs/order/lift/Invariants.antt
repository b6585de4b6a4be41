-- The results so far are those of the places so far.
use Rattle.std.proofs.Common.{◌≡◌, map, Some}
use Rattle.drawn_waves.proofs.order.lift.Given as goal

abbrev pub invariant-loop-place : goal.invariant-loop-place
invariant-loop-place g l = map Some l.results.items ≡ l.yielded
