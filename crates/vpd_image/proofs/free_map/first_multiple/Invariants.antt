use Rattle.std.proofs.Common.{◌≡◌, ◌≤◌, length}
use Rattle.vpd_image.specs.Rooms.{AreBelow, room_limit, first_multiple}
use Rattle.vpd_image.proofs.free_map.first_multiple.Given as goal

abbrev pub invariant-loop-left : goal.invariant-loop-left
invariant-loop-left l = record {
  below : AreBelow l.left;
  small : l.n ≤ room_limit;
  same : first_multiple l.left l.align l.size l.n ≡ first_multiple l.fn.left l.align l.size l.from;
}

abbrev pub decreases-loop-left : goal.decreases-loop-left
decreases-loop-left l = length l.left
