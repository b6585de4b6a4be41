use Rattle.pcd_resolve.specs.Tables.{use_name}
use Rattle.pcd_ranks.specs.Views.{at_view, use_view}
use Rattle.pcd_resolve.proofs.GroupLemmas.{grown_by_one}
use Rattle.pcd_resolve.proofs.NameFilterLemmas.{kept_twice}
use Rattle.pcd_resolve.proofs.used.add_uses.Goals as goal

pub loop-at-preserved : goal.loop-at-preserved
loop-at-preserved c = λ xs h. grown_by_one use_view use_name (at_view c.args.tables.now.parts.now) xs c.args.uses.now c.loop-at.at-index _ c.add_use.new.table c.loop-at-test.true c.at-item.is (c.in_ok-add_use.ensures _ (c.loop-at.invariant xs h))

pub add_use-requires-clause-kept : goal.add_use-requires-clause-kept
add_use-requires-clause-kept c = kept_twice c.args.tables.now.marks.items use_name (at_view c.args.tables.now.parts.now) c.args.uses.now c.loop-at.at-index _ c.loop-at-test.true c.at-item.is c.requires.kept
