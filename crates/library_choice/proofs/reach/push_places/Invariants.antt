use Rattle.std.proofs.Common.{◌≡◌, ◌++◌, map, length}
use Rattle.std.specs.List.{filter_map}
use Rattle.library_choice.specs.Closure.{instance_of}
use Rattle.library_choice.specs.Reaching.{place_in}
use Rattle.library_choice.proofs.reach.push_places.Given as goal

abbrev pub invariant-loop-left : goal.invariant-loop-left
invariant-loop-left l = l.places ++ map (place_in l.found) (filter_map (instance_of l.tables) l.left) ≡ l.fn.places ++ map (place_in l.fn.found) (filter_map (instance_of l.fn.tables) l.fn.classes)

abbrev pub decreases-loop-left : goal.decreases-loop-left
decreases-loop-left l = length l.left
