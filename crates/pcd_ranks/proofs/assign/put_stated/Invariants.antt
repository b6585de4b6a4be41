use Rattle.std.proofs.Common.{◌≡◌, ◌++◌, map, take}
use Rattle.std.specs.Prelude.{filter}
use Rattle.pcd_ranks.specs.Listing.{applies}
use Rattle.pcd_ranks.specs.Views.{stated_view, given_view}
use Rattle.pcd_ranks.specs.Assignments.{by_line}
use Rattle.pcd_ranks.proofs.assign.put_stated.Given as goal

abbrev pub invariant-loop-stated : goal.invariant-loop-stated
invariant-loop-stated l = map given_view l.all.items ≡ map given_view l.fn.all.items ++ map (by_line l.datum) (filter (applies l.user) (map stated_view (take l.stated-index l.lines)))
