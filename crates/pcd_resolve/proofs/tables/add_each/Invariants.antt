use Rattle.std.proofs.Common.{◌++◌, List, take}
use Rattle.std.specs.List.{flat_map}
use Rattle.pcd_resolve.specs.Groups.{GroupedAt}
use Rattle.pcd_ranks.specs.Listing.{Stated}
use Rattle.pcd_resolve.specs.Tables.{stated_name, lines_at}
use Rattle.pcd_ranks.specs.Views.{stated_view}
use Rattle.pcd_resolve.proofs.tables.add_each.Given as goal

abbrev pub invariant-loop-one : goal.invariant-loop-one
invariant-loop-one l = (xs : List Stated) → GroupedAt l.marks stated_view stated_name xs l.fn.table → GroupedAt l.marks stated_view stated_name (xs ++ flat_map (λ one. lines_at one.now) (take l.one-index l.homes)) l.table
