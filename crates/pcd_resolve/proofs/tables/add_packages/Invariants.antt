use Rattle.std.proofs.Common.{◌++◌, List, map, take}
use Rattle.std.specs.List.{flat_map}
use Rattle.pcd_resolve.specs.Groups.{GroupedAt}
use Rattle.pcd_ranks.specs.Listing.{Declared, line_from}
use Rattle.pcd_resolve.specs.Tables.{declared_name}
use Rattle.pcd_ranks.specs.Views.{declared_view}
use Rattle.pcd_resolve.proofs.tables.add_packages.Given as goal

abbrev pub invariant-loop-held : goal.invariant-loop-held
invariant-loop-held l =
    (xs : List Declared) → GroupedAt l.marks declared_view declared_name xs l.fn.table
    → GroupedAt l.marks declared_view declared_name (xs ++ flat_map (λ held. map (line_from held.path) held.doc.pcds) (take l.held-index l.decs)) l.table
