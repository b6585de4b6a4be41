use Rattle.std.proofs.Common.{take}
use Rattle.std.specs.List.{All}
use Rattle.dsc_platform.specs.FarPlaces.{IsMarked}
use Rattle.dsc_platform.proofs.parent_doubling.ancestor_marks.Given as goal

abbrev pub invariant-loop-place : goal.invariant-loop-place
invariant-loop-place l = All (IsMarked l.marks.items) (take l.place-index l.far)
