use Rattle.std.proofs.Common.{◌++◌, List, map, take}
use Rattle.pcd_resolve.specs.Groups.{Grouped}
use Rattle.pcd_ranks.specs.Listing.{Use}
use Rattle.pcd_resolve.specs.Tables.{use_name}
use Rattle.pcd_ranks.specs.Views.{at_view, use_view}
use Rattle.pcd_resolve.proofs.used.add_uses.Given as goal

abbrev pub invariant-loop-at : goal.invariant-loop-at
invariant-loop-at l =
    (xs : List Use) → Grouped use_view use_name xs l.fn.table
    → Grouped use_view use_name (xs ++ map (at_view l.tables.parts.now) (take l.at-index l.uses)) l.table
