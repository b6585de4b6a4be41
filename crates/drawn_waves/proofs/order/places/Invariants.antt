-- So many places, none with a result.
use Rattle.std.proofs.Common.{◌≡◌, replicate, vec_len, None}
use Rattle.drawn_waves.proofs.order.places.Given as goal

abbrev pub invariant-loop-place : goal.invariant-loop-place
invariant-loop-place g l = (l.places.items ≡ replicate l.place None) × (vec_len l.places ≡ l.place)
