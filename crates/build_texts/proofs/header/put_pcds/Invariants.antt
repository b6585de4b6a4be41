use Rattle.std.proofs.Common.{◌≡◌, ◌++◌, length}
use Rattle.build_texts.specs.Code.{pcd_lines}
use Rattle.build_texts.proofs.header.put_pcds.Given as goal

abbrev pub invariant-loop-left : goal.invariant-loop-left
invariant-loop-left l = l.out.items ++ pcd_lines l.left ≡ l.fn.out.items ++ pcd_lines l.rows

abbrev pub decreases-loop-left : goal.decreases-loop-left
decreases-loop-left l = length l.left
