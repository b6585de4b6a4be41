use Rattle.dsc_platform.specs.FarPlaces.{IsFar}
use Rattle.dsc_platform.proofs.parent_doubling.far_places.Given as goal

abbrev pub invariant-loop-left : goal.invariant-loop-left
invariant-loop-left l = IsFar l.parents l.far.items

abbrev pub decreases-loop-left : goal.decreases-loop-left
decreases-loop-left l = l.left
