use Rattle.std.proofs.Common.{◌++◌, List, map, take}
use Rattle.pcd_resolve.specs.Groups.{GroupedAt}
use Rattle.pcd_ranks.specs.Listing.{Declared, line_from}
use Rattle.pcd_resolve.specs.Tables.{declared_name}
use Rattle.pcd_ranks.specs.Views.{declared_view}
use Rattle.pcd_resolve.proofs.tables.add_lent_declarations.Given as goal

abbrev pub invariant-loop-line : goal.invariant-loop-line
invariant-loop-line l =
    (xs : List Declared) → GroupedAt l.marks declared_view declared_name xs l.fn.table
    → GroupedAt l.marks declared_view declared_name (xs ++ map (λ line. line_from l.from line.now) (take l.line-index l.lines)) l.table
