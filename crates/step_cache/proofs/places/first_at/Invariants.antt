use Rattle.std.proofs.Common.{◌≡◌, length}
use Rattle.step_cache.specs.Places.{texts_at, first_at}
use Rattle.step_cache.proofs.places.first_at.Given as goal

abbrev pub invariant-loop-left : goal.invariant-loop-left
invariant-loop-left l = first_at (texts_at l.bytes l.spans) l.text l.left ≡ first_at (texts_at l.bytes l.spans) l.text l.numbers

abbrev pub decreases-loop-left : goal.decreases-loop-left
decreases-loop-left l = length l.left
