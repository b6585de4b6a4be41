use Rattle.std.specs.Borrow.{Bor}
use Rattle.doc_types.specs.declared.pcd.PcdSet.{PcdSet as Set}
use Rattle.pcd_resolve.specs.Tables.{set_name}
use Rattle.pcd_resolve.proofs.GroupLemmas.{kept_added, kept_by_one}
use Rattle.pcd_resolve.proofs.tables.add_lent_sets.Goals as goal

pub loop-set-preserved : goal.loop-set-preserved
loop-set-preserved c = λ xs h. kept_by_one c.args.marks.now (λ s. s.now) set_name (λ (s : Bor Set). s.now) xs c.args.sets.now c.loop-set.set-index _ c.add_kept.new.table c.loop-set-test.true c.set-item.is (kept_added c.args.marks.now (λ s. s.now) set_name _ _ c.loop-set.table c.add_kept.new.table c.in_ok-add_kept.ensures (c.loop-set.invariant xs h))
