use Rattle.std.proofs.Common.{◌≡◌, map, take}
use Rattle.library_choice.specs.Reaching.{leads_at}
use Rattle.library_choice.proofs.reach.reach_at.Given as goal

abbrev pub invariant-loop-place : goal.invariant-loop-place
invariant-loop-place l = l.rows ≡ map (λ y. map (leads_at l.nexts y) l.places) (take l.place-index l.places)
