use Rattle.std.proofs.Common.{◌≡◌, nat_le, length}
use Rattle.std.specs.List.{list_all}
use Rattle.volume_nesting.specs.Looping.{rank_at, falls}
use Rattle.volume_nesting.proofs.loops.falls.Given as goal

abbrev pub invariant-loop-left : goal.invariant-loop-left
invariant-loop-left l = list_all (λ q. nat_le (rank_at l.ranks q) (rank_at l.ranks l.volume)) l.left ≡ falls l.nests l.ranks l.volume

abbrev pub decreases-loop-left : goal.decreases-loop-left
decreases-loop-left l = length l.left
