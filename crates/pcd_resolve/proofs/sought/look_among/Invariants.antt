use Rattle.std.proofs.Common.{◌≡◌, map, length}
use Rattle.std.specs.Prelude.{fold}
use Rattle.pcd_resolve.specs.Sought.{look_each, sought_view}
use Rattle.pcd_resolve.proofs.sought.look_among.Given as goal

abbrev pub invariant-loop-left : goal.invariant-loop-left
invariant-loop-left l = fold look_each (map sought_view l.all.items) l.left ≡ fold look_each (map sought_view l.fn.start.items) l.modules

abbrev pub decreases-loop-left : goal.decreases-loop-left
decreases-loop-left l = length l.left
