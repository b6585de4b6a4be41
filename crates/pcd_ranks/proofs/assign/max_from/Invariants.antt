use Rattle.std.proofs.Common.{◌≡◌, map, drop}
use Rattle.std.specs.Option.{option_map}
use Rattle.build_base.specs.Best.{best, over}
use Rattle.pcd_ranks.specs.Views.{given_view}
use Rattle.pcd_ranks.specs.Assignments.{max_height}
use Rattle.pcd_ranks.proofs.assign.max_from.Given as goal

abbrev pub invariant-loop-a : goal.invariant-loop-a
invariant-loop-a l = over max_height (option_map given_view l.held) (best max_height (map given_view (drop l.a-index l.all))) ≡ best max_height (map given_view l.all)
