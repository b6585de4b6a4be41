use Rattle.std.proofs.Common.{◌≡◌, length}
use Rattle.pcd_resolve.specs.NameFilter.{with_marks}
use Rattle.text_steps.proofs.depex.mark_terms.Given as goal

abbrev pub invariant-loop-left : goal.invariant-loop-left
invariant-loop-left l = with_marks l.marks.items l.left ≡ with_marks l.fn.marks.items l.terms

abbrev pub decreases-loop-left : goal.decreases-loop-left
decreases-loop-left l = length l.left
