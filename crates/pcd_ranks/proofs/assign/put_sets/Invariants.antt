use Rattle.std.proofs.Common.{◌≡◌, ◌++◌, map, take}
use Rattle.pcd_ranks.specs.Views.{given_view}
use Rattle.pcd_ranks.specs.Assignments.{by_set}
use Rattle.pcd_ranks.proofs.assign.put_sets.Given as goal

abbrev pub invariant-loop-set : goal.invariant-loop-set
invariant-loop-set l = map given_view l.all.items ≡ map given_view l.fn.all.items ++ map by_set (map (λ s. s.now) (take l.set-index l.sets))
