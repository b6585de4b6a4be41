use Rattle.std.proofs.Common.{◌≡◌, ℕ, ◌||◌, length}
use Rattle.std.specs.BTreeSet.{contains}
use Rattle.std.specs.Ordering.{nat_cmp}
use Rattle.volume_nesting.specs.Numbering.{has}
use Rattle.output_steps.proofs.wanted.set_of.Given as goal

abbrev pub invariant-loop-left : goal.invariant-loop-left
invariant-loop-left l = (n : ℕ) → (contains nat_cmp l.set n || has l.left n) ≡ has l.numbers n

abbrev pub decreases-loop-left : goal.decreases-loop-left
decreases-loop-left l = length l.left
