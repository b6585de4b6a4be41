use Rattle.std.proofs.Common.{take}
use Rattle.line_ranks.specs.Places.{Lines}
use Rattle.line_ranks.proofs.places.line_places.Given as goal

abbrev pub invariant-loop-place : goal.invariant-loop-place
invariant-loop-place l = Lines l.user l.own l.lines (take l.place l.lines) l.places
