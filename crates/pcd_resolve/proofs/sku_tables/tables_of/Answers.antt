use Rattle.pcd_resolve.proofs.SkuLemmas.{ups_are, few_of}
use Rattle.pcd_resolve.proofs.sku_tables.tables_of.Goals as goal

pub returns : goal.returns
returns c = record {
  firsts = c.in_ok-firsts.ensures;
  ups = ups_are c.args.skus.now c.in_ok-firsts.firsts c.in_ok-ups.ups.items c.in_ok-firsts.ensures c.in_ok-ups.ensures;
  few = few_of c.args.skus.now c.in_ok-firsts.firsts c.in_ok-ups.ups.items c.as_slice.result.now c.in_ok-order.order.items c.in_ok-ups.ensures c.as_slice.ensures.value c.in_ok-order.ensures;
}
