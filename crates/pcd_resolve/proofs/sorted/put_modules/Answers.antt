use Rattle.pcd_resolve.proofs.UseLemmas.{names_more}
use Rattle.pcd_resolve.proofs.sorted.put_modules.Goals as goal

pub loop-parts-preserved : goal.loop-parts-preserved
loop-parts-preserved c = names_more _ _ _ c.args.modules.now c.loop-parts.parts-index _ c.loop-parts-test.true c.parts-item.is c.in_ok-put_module.ensures c.loop-parts.invariant
