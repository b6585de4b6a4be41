use Rattle.std.proofs.Common.{◌≡◌, ◌++◌, map, length, get_or, []}
use Rattle.flash_document.proofs.volumes.ordered_names.Given as goal

abbrev pub invariant-loop-left : goal.invariant-loop-left
invariant-loop-left l = l.ordered ++ map (λ p. get_or l.names p []) l.left ≡ map (λ p. get_or l.names p []) l.order

abbrev pub decreases-loop-left : goal.decreases-loop-left
decreases-loop-left l = length l.left
