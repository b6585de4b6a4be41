-- The numbers drawn so far are those of the results so far.
use Rattle.std.proofs.Common.{◌≡◌, ◌-◌}
use Rattle.drawn_waves.proofs.Turns.{Going}
use Rattle.drawn_waves.proofs.pieces.take_pieces.Given as goal

abbrev pub invariant-loop-item : goal.invariant-loop-item
invariant-loop-item g l = (l.seat.table_id ≡ l.fn.seat.seat.table_id) × Going (goal.F-post g) l.work l.pieces l.fn.seat.seat.me.0 l.seat.me.0 l.results.items l.next

abbrev pub decreases-loop-item : goal.decreases-loop-item
decreases-loop-item g l = l.pieces - l.next
