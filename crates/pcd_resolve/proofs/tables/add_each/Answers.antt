use Rattle.pcd_resolve.specs.Tables.{stated_name, lines_at}
use Rattle.pcd_ranks.specs.Views.{stated_view}
use Rattle.pcd_resolve.proofs.GroupLemmas.{kept_by_some}
use Rattle.pcd_resolve.proofs.tables.add_each.Goals as goal

pub loop-one-preserved : goal.loop-one-preserved
loop-one-preserved c = λ xs h. kept_by_some c.args.marks.now stated_view stated_name (λ one. lines_at one.now) xs c.args.homes.now c.loop-one.one-index _ c.add_component.new.table c.loop-one-test.true c.one-item.is (c.in_ok-add_component.ensures _ (c.loop-one.invariant xs h))
