use Rattle.std.proofs.Common.{[]}
use Rattle.pcd_ranks.specs.Views.{stated_view}
use Rattle.pcd_resolve.specs.SkuTables.{stated_sku}
use Rattle.pcd_resolve.proofs.GroupLemmas.{grouped_none, grown_by_one}
use Rattle.pcd_resolve.proofs.sku_values.lines_by_sku.Goals as goal

pub loop-stated-init : goal.loop-stated-init
loop-stated-init c = grouped_none stated_view stated_sku c.new-table.result c.new-table.ensures.empty

pub loop-stated-preserved : goal.loop-stated-preserved
loop-stated-preserved c = grown_by_one stated_view stated_sku stated_view [] c.args.lines.now c.loop-stated.stated-index _ c.add_line.new.table c.loop-stated-test.true c.stated-item.is (c.in_ok-add_line.ensures _ c.loop-stated.invariant)
