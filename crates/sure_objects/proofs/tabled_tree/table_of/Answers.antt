-- One more file stands in the table.
use Rattle.std.proofs.Common.{arith}
use Rattle.sure_objects.proofs.TableLemmas.{one_before}
use Rattle.sure_objects.proofs.tabled_tree.table_of.Goals as goal

pub loop-left-preserved : goal.loop-left-preserved
loop-left-preserved c =
    let i = c.loop-left.invariant in
    let some = c.loop-left-test.true in
    (omega (arith, i.0), one_before c.args.files.now c.loop-left.left _ _ _ _ (omega (arith, some)) (omega (arith, some, i.0)) c.index-files-left.is i.1 c.in_ok-put_copy.ensures)
