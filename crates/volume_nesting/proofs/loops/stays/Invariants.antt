use Rattle.std.proofs.Common.{◌≡◌, nat_le, length}
use Rattle.std.specs.List.{list_any}
use Rattle.volume_nesting.specs.Looping.{rank_at, stays}
use Rattle.volume_nesting.proofs.loops.stays.Given as goal

abbrev pub invariant-loop-left : goal.invariant-loop-left
invariant-loop-left l = list_any (λ q. nat_le (rank_at l.ranks l.volume) (rank_at l.ranks q)) l.left ≡ stays l.nests l.ranks l.volume

abbrev pub decreases-loop-left : goal.decreases-loop-left
decreases-loop-left l = length l.left
