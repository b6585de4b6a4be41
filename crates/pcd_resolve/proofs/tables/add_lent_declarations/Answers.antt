use Rattle.std.specs.Borrow.{Bor}
use Rattle.doc_types.specs.declared.package.DecPcd.{DecPcd}
use Rattle.pcd_ranks.specs.Listing.{line_from}
use Rattle.pcd_resolve.specs.Tables.{declared_name}
use Rattle.pcd_ranks.specs.Views.{declared_view}
use Rattle.pcd_resolve.proofs.GroupLemmas.{kept_added, kept_by_one}
use Rattle.pcd_resolve.proofs.tables.add_lent_declarations.Goals as goal

pub loop-line-preserved : goal.loop-line-preserved
loop-line-preserved c = λ xs h. kept_by_one c.args.marks.now declared_view declared_name (λ (line : Bor DecPcd). line_from c.args.from.now line.now) xs c.args.lines.now c.loop-line.line-index _ c.add_kept.new.table c.loop-line-test.true c.line-item.is (kept_added c.args.marks.now declared_view declared_name _ _ c.loop-line.table c.add_kept.new.table c.in_ok-add_kept.ensures (c.loop-line.invariant xs h))
