use Rattle.std.proofs.Common.{map}
use Rattle.std.specs.Prelude.{filter}
use Rattle.pcd_ranks.specs.Listing.{arch_of, use_of}
use Rattle.doc_types.specs.declared.module.UsedPcd.{UsedPcd}
use Rattle.pcd_ranks.specs.Names.{covers}
use Rattle.pcd_resolve.proofs.PassLemmas.{map_filter, passed}
use Rattle.pcd_resolve.proofs.uses.put_lines.Goals as goal

pub loop-line-preserved : goal.loop-line-preserved
loop-line-preserved c =
    passed (λ ls. map (use_of c.args.parts.now c.args.inf.now) (filter (λ (l : UsedPcd). covers l.arch (arch_of c.args.parts.now)) ls)) c.args.lines.now c.loop-line.line-index _ _ _ _
    (map_filter (use_of c.args.parts.now c.args.inf.now) (λ (l : UsedPcd). covers l.arch (arch_of c.args.parts.now))) c.loop-line-test.true c.line-item.is c.loop-line.invariant c.in_ok-put_line.ensures
