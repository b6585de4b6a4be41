use Rattle.std.proofs.Common.{[]}
use Rattle.pcd_ranks.specs.Listing.{packages_of}
use Rattle.pcd_resolve.proofs.PassLemmas.{flat_passed}
use Rattle.pcd_resolve.proofs.packages.named_in.Goals as goal

pub loop-inf-preserved : goal.loop-inf-preserved
loop-inf-preserved c =
    flat_passed (packages_of c.args.arch) c.args.infs.now c.loop-inf.inf-index _ _ [] _ _
    c.loop-inf-test.true c.inf-item.is c.value.ensures c.loop-inf.invariant c.in_ok-put_packages.ensures
