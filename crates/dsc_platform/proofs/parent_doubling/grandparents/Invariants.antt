use Rattle.std.proofs.Common.{◌≡◌, map, take}
use Rattle.dsc_platform.specs.FarPlaces.{behind}
use Rattle.dsc_platform.proofs.parent_doubling.grandparents.Given as goal

abbrev pub invariant-loop-place : goal.invariant-loop-place
invariant-loop-place l = l.twice.items ≡ map (behind l.far) (take l.place-index l.far)
