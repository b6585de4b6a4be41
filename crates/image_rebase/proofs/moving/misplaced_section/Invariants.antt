use Rattle.std.proofs.Common.{◌≡◌, ℕ, ◌<◌, false}
use Rattle.image_rebase.specs.Moves.{is_misplaced}
use Rattle.image_rebase.proofs.moving.misplaced_section.Given as goal

abbrev pub invariant-loop-number : goal.invariant-loop-number
invariant-loop-number l = (m : ℕ) → m < l.number → is_misplaced l.image l.content m ≡ false
