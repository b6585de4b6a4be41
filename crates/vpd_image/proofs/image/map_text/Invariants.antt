use Rattle.std.proofs.Common.{◌≡◌, ◌++◌, length, map}
use Rattle.std.specs.List.{flat_map}
use Rattle.vpd_image.specs.Tables.{placed_view}
use Rattle.vpd_image.specs.Vpd.{map_line}
use Rattle.vpd_image.proofs.image.map_text.Given as goal

abbrev pub invariant-loop-left : goal.invariant-loop-left
invariant-loop-left l = l.out.items ++ flat_map map_line (map placed_view l.left) ≡ flat_map map_line (map placed_view l.all)

abbrev pub decreases-loop-left : goal.decreases-loop-left
decreases-loop-left l = length l.left
