use Rattle.std.proofs.Common.{◌-◌, arith}
use Rattle.pcd_resolve.proofs.SkuLemmas.{firsts_more}
use Rattle.pcd_resolve.proofs.sku_tables.firsts_of.Goals as goal

pub loop-place-preserved : goal.loop-place-preserved
loop-place-preserved c = record {
  place = omega (arith, c.loop-place.invariant.place);
  table = firsts_more c.args.skus.now (c.loop-place.place - 1) c.loop-place.place c.index-skus-place.result c.loop-place.firsts c.put_first.new.firsts
      (omega (arith, c.loop-place-test.true)) (omega (arith, c.loop-place.invariant.place, c.loop-place-test.true)) c.index-skus-place.is c.in_ok-put_first.ensures c.loop-place.invariant.table;
}
