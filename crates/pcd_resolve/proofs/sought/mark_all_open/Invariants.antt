use Rattle.std.proofs.Common.{◌≡◌, map, length}
use Rattle.pcd_resolve.specs.NameFilter.{with_marks}
use Rattle.pcd_resolve.specs.Sought.{open_names, sought_view}
use Rattle.pcd_resolve.proofs.sought.mark_all_open.Given as goal

abbrev pub invariant-loop-left : goal.invariant-loop-left
invariant-loop-left l = with_marks l.marks.items (open_names (map sought_view l.left)) ≡ with_marks l.fn.marks.items (open_names (map sought_view l.all))

abbrev pub decreases-loop-left : goal.decreases-loop-left
decreases-loop-left l = length l.left
