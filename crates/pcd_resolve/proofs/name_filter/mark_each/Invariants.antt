use Rattle.std.proofs.Common.{◌≡◌, map, length}
use Rattle.pcd_resolve.specs.NameFilter.{with_marks}
use Rattle.pcd_resolve.specs.Tables.{use_name}
use Rattle.pcd_ranks.specs.Views.{at_view}
use Rattle.pcd_resolve.proofs.name_filter.mark_each.Given as goal

abbrev pub invariant-loop-left : goal.invariant-loop-left
invariant-loop-left l =
    with_marks l.marks.items (map use_name (map (at_view l.parts) l.left))
    ≡ with_marks l.fn.marks.items (map use_name (map (at_view l.parts) l.uses))

abbrev pub decreases-loop-left : goal.decreases-loop-left
decreases-loop-left l = length l.left
