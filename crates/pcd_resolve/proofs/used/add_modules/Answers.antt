use Rattle.pcd_ranks.specs.Listing.{uses_of_module}
use Rattle.pcd_resolve.specs.Tables.{use_name}
use Rattle.pcd_ranks.specs.Views.{use_view}
use Rattle.pcd_resolve.proofs.GroupLemmas.{grown_by_some}
use Rattle.pcd_resolve.proofs.used.add_modules.Goals as goal

pub loop-parts-preserved : goal.loop-parts-preserved
loop-parts-preserved c = λ xs h. grown_by_some use_view use_name uses_of_module xs c.args.modules.now c.loop-parts.parts-index _ c.add_parts.new.table c.loop-parts-test.true c.parts-item.is (c.in_ok-add_parts.ensures _ (c.loop-parts.invariant xs h))
