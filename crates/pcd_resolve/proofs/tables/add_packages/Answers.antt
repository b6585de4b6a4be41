use Rattle.std.proofs.Common.{map}
use Rattle.pcd_ranks.specs.Listing.{line_from}
use Rattle.pcd_resolve.specs.Tables.{declared_name}
use Rattle.pcd_ranks.specs.Views.{declared_view}
use Rattle.pcd_resolve.proofs.GroupLemmas.{kept_by_some}
use Rattle.pcd_resolve.proofs.tables.add_packages.Goals as goal

pub loop-held-preserved : goal.loop-held-preserved
loop-held-preserved c = λ xs h. kept_by_some c.args.marks.now declared_view declared_name (λ held. map (line_from held.path) held.doc.pcds) xs c.args.decs.now c.loop-held.held-index _ c.add_package.new.table c.loop-held-test.true c.held-item.is (c.in_ok-add_package.ensures _ (c.loop-held.invariant xs h))
