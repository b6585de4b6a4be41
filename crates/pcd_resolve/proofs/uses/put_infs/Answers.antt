use Rattle.pcd_ranks.specs.Listing.{uses_by}
use Rattle.pcd_resolve.proofs.PassLemmas.{flat_passed}
use Rattle.pcd_resolve.proofs.uses.put_infs.Goals as goal

pub loop-inf-preserved : goal.loop-inf-preserved
loop-inf-preserved c =
    flat_passed (uses_by c.args.parts.now) c.args.infs.now c.loop-inf.inf-index _ _ _ _ _
    c.loop-inf-test.true c.inf-item.is c.value.ensures c.loop-inf.invariant c.in_ok-put_inf.ensures
