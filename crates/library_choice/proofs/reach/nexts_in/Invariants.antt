use Rattle.std.proofs.Common.{◌≡◌, map, take}
use Rattle.library_choice.specs.Closure.{next}
use Rattle.library_choice.specs.Reaching.{place_in}
use Rattle.library_choice.proofs.reach.nexts_in.Given as goal

abbrev pub invariant-loop-path : goal.invariant-loop-path
invariant-loop-path l = l.nexts ≡ map (λ path. map (place_in l.found) (next l.tables path)) (take l.path-index l.found)
