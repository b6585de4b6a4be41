use Rattle.std.proofs.Common.{◌≡◌, length, fold}
use Rattle.text_steps.specs.DepexNames.{with_terms}
use Rattle.text_steps.proofs.depex.mark_parts.Given as goal

abbrev pub invariant-loop-left : goal.invariant-loop-left
invariant-loop-left l = fold with_terms l.marks.items l.left ≡ fold with_terms l.fn.marks.items l.parts

abbrev pub decreases-loop-left : goal.decreases-loop-left
decreases-loop-left l = length l.left
