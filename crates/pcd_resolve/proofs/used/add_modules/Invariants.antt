use Rattle.std.proofs.Common.{◌++◌, List, take}
use Rattle.std.specs.List.{flat_map}
use Rattle.pcd_resolve.specs.Groups.{Grouped}
use Rattle.pcd_ranks.specs.Listing.{Use, uses_of_module}
use Rattle.pcd_resolve.specs.Tables.{use_name}
use Rattle.pcd_ranks.specs.Views.{use_view}
use Rattle.pcd_resolve.proofs.used.add_modules.Given as goal

abbrev pub invariant-loop-parts : goal.invariant-loop-parts
invariant-loop-parts l =
    (xs : List Use) → Grouped use_view use_name xs l.fn.table
    → Grouped use_view use_name (xs ++ flat_map uses_of_module (take l.parts-index l.modules)) l.table
