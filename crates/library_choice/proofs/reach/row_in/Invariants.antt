use Rattle.std.proofs.Common.{◌≡◌, nat_eq, map, take}
use Rattle.library_choice.specs.Found.{is_in}
use Rattle.library_choice.proofs.reach.row_in.Given as goal

abbrev pub invariant-loop-place : goal.invariant-loop-place
invariant-loop-place l = l.row ≡ map (is_in nat_eq l.passed) (take l.place-index l.places)
