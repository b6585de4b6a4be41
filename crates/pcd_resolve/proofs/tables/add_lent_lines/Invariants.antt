use Rattle.std.proofs.Common.{◌++◌, List, map, take, None}
use Rattle.pcd_resolve.specs.Groups.{GroupedAt}
use Rattle.pcd_ranks.specs.Listing.{Stated}
use Rattle.pcd_resolve.specs.Tables.{stated_name, at_home}
use Rattle.pcd_ranks.specs.Views.{stated_view}
use Rattle.pcd_resolve.proofs.tables.add_lent_lines.Given as goal

abbrev pub invariant-loop-line : goal.invariant-loop-line
invariant-loop-line l = (xs : List Stated) → GroupedAt l.marks stated_view stated_name xs l.fn.table → GroupedAt l.marks stated_view stated_name (xs ++ map (λ line. at_home None line.now) (take l.line-index l.lines)) l.table
