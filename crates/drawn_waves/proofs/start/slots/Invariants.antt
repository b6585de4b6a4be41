-- The slots so far are those of the items so far.
use Rattle.std.proofs.Common.{◌≡◌, map, Some}
use Rattle.drawn_waves.proofs.start.slots.Given as goal

abbrev pub invariant-loop-item : goal.invariant-loop-item
invariant-loop-item g l = l.slots.items ≡ map Some l.yielded
