-- The results so far are in their places.
use Rattle.std.proofs.Common.{◌≡◌, vec_len}
use Rattle.drawn_waves.specs.Pieces.{placed}
use Rattle.drawn_waves.proofs.order.lay.Given as goal

abbrev pub invariant-loop-piece : goal.invariant-loop-piece
invariant-loop-piece g l = (l.places.items ≡ placed l.fn.count l.yielded) × (vec_len l.places ≡ l.fn.count)
