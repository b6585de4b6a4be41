use Rattle.build_texts.specs.Named.{declared_name, line_from}
use Rattle.build_texts.specs.Views.{declared_view}
use Rattle.pcd_resolve.proofs.GroupLemmas.{kept_by_one}
use Rattle.build_texts.proofs.packages.add_lines.Goals as goal

pub loop-line-preserved : goal.loop-line-preserved
loop-line-preserved c = λ xs h. kept_by_one c.args.marks.now declared_view declared_name (line_from c.args.from.now) xs c.args.lines.now c.loop-line.line-index _ c.add_line.new.table c.loop-line-test.true c.line-item.is (c.in_ok-add_line.ensures _ (c.loop-line.invariant xs h))
