use Rattle.std.proofs.Common.{◌≡◌, ◌++◌, map, drop}
use Rattle.pcd_ranks.specs.Views.{use_view, given_view}
use Rattle.pcd_ranks.specs.Assignments.{first_default}
use Rattle.pcd_ranks.proofs.assign.put_default.Given as goal

abbrev pub invariant-loop-used : goal.invariant-loop-used
invariant-loop-used l = map given_view l.all.items ++ first_default (map use_view (drop l.used-index l.uses)) ≡ map given_view l.fn.all.items ++ first_default (map use_view l.uses)
