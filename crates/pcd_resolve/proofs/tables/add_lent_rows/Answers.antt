use Rattle.std.specs.Borrow.{Bor}
use Rattle.doc_types.specs.declared.values.PcdRow.{PcdRow as Row}
use Rattle.pcd_resolve.specs.Tables.{row_name}
use Rattle.pcd_resolve.proofs.GroupLemmas.{kept_added, kept_by_one}
use Rattle.pcd_resolve.proofs.tables.add_lent_rows.Goals as goal

pub loop-row-preserved : goal.loop-row-preserved
loop-row-preserved c = λ xs h. kept_by_one c.args.marks.now (λ r. r.now) row_name (λ (r : Bor Row). r.now) xs c.args.rows.now c.loop-row.row-index _ c.add_kept.new.table c.loop-row-test.true c.row-item.is (kept_added c.args.marks.now (λ r. r.now) row_name _ _ c.loop-row.table c.add_kept.new.table c.in_ok-add_kept.ensures (c.loop-row.invariant xs h))
