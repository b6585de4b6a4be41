use Rattle.std.proofs.Common.{◌≡◌, map, length}
use Rattle.pcd_resolve.specs.NameFilter.{with_marks}
use Rattle.pcd_resolve.proofs.name_filter.mark_names.Given as goal

abbrev pub invariant-loop-left : goal.invariant-loop-left
invariant-loop-left l = with_marks l.marks.items (map (λ n. n.items) l.left) ≡ with_marks l.fn.marks.items (map (λ n. n.items) l.names)

abbrev pub decreases-loop-left : goal.decreases-loop-left
decreases-loop-left l = length l.left
