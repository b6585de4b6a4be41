use Rattle.std.proofs.Common.{◌≡◌, ◌++◌, length, map}
use Rattle.job_fields.proofs.fields.push_lines.Given as goal

abbrev pub invariant-loop-left : goal.invariant-loop-left
invariant-loop-left l = l.lines ++ map (λ name. l.kind ++ name) l.left ≡ l.fn.lines ++ map (λ name. l.kind ++ name) l.names

abbrev pub decreases-loop-left : goal.decreases-loop-left
decreases-loop-left l = length l.left
