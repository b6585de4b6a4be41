use Rattle.std.proofs.Common.{◌≡◌, ◌++◌, length}
use Rattle.std.specs.List.{flat_map}
use Rattle.flash_document.specs.Whole.{region_held}
use Rattle.flash_document.proofs.held.push_regions.Given as goal

abbrev pub invariant-loop-left : goal.invariant-loop-left
invariant-loop-left l = l.held ++ flat_map (region_held l.block) l.left ≡ l.fn.held ++ flat_map (region_held l.block) l.regions

abbrev pub decreases-loop-left : goal.decreases-loop-left
decreases-loop-left l = length l.left
