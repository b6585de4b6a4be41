use Rattle.std.proofs.Common.{ℕ}
use Rattle.std.specs.Global.{Vec}
use Rattle.pcd_resolve.proofs.NameFilterLemmas.{kept_at}
use Rattle.pcd_resolve.proofs.resolve.all_rows.Goals as goal

pub rows_at-requires-clause-kept : goal.rows_at-requires-clause-kept
rows_at-requires-clause-kept c =
    kept_at c.args.from.now.tables.now.marks.items (λ (n : Vec ℕ). n.items) c.args.names.now c.loop-pcd.pcd-index _ c.loop-pcd-test.true c.pcd-item.is c.requires.kept
