use Rattle.std.proofs.Common.{◌∙◌, arith}
use Rattle.fdf_lines.specs.Counts.{one_head}
use Rattle.fdf_lines.proofs.CountLemmas.{counted_all}
use Rattle.fdf_lines.proofs.counts.heads_of.Goals as goal

pub returns : goal.returns
returns c =
    counted_all (one_head c.args.section) c.args.heads.now c.loop-head.head-index c.loop-head.count (omega arith) c.loop-head.invariant.1 ∙ c.loop-head.invariant.0
