use Rattle.std.proofs.Common.{◌-◌, arith}
use Rattle.vpd_image.proofs.EntryLemmas.{table_more}
use Rattle.vpd_image.proofs.rows.rows_by_label.Goals as goal

pub loop-place-preserved : goal.loop-place-preserved
loop-place-preserved c = record {
  place = omega (arith, c.loop-place.invariant.place);
  table = table_more c.args.rows.now (c.loop-place.place - 1) c.loop-place.place c.index-rows-place.result c.loop-place.table c.put_row.new.table
      (omega (arith, c.loop-place-test.true)) (omega (arith, c.loop-place.invariant.place, c.loop-place-test.true)) c.index-rows-place.is c.in_ok-put_row.ensures c.loop-place.invariant.table;
}
