use Rattle.std.proofs.Common.{map}
use Rattle.std.specs.Prelude.{filter}
use Rattle.doc_types.specs.declared.module.Named.{Named}
use Rattle.pcd_ranks.specs.Names.{covers}
use Rattle.pcd_resolve.proofs.PassLemmas.{map_filter, passed}
use Rattle.pcd_resolve.proofs.packages.put_names.Goals as goal

pub loop-named-preserved : goal.loop-named-preserved
loop-named-preserved c =
    passed (λ ns. map (λ (n : Named). n.name) (filter (λ (n : Named). covers n.arch c.args.arch) ns)) c.args.names.now c.loop-named.named-index _ _ _ _
    (map_filter (λ (n : Named). n.name) (λ (n : Named). covers n.arch c.args.arch)) c.loop-named-test.true c.named-item.is c.loop-named.invariant c.in_ok-put_named.ensures
