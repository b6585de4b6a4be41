use Rattle.std.proofs.Common.{map, take}
use Rattle.pcd_ranks.specs.Views.{stated_view}
use Rattle.pcd_resolve.specs.Groups.{Grouped}
use Rattle.pcd_resolve.specs.SkuTables.{stated_sku}
use Rattle.pcd_resolve.proofs.sku_values.lines_by_sku.Given as goal

abbrev pub invariant-loop-stated : goal.invariant-loop-stated
invariant-loop-stated l = Grouped stated_view stated_sku (map stated_view (take l.stated-index l.lines)) l.table
