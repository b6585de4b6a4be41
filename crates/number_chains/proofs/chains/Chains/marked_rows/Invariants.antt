use Rattle.std.proofs.Common.{length, ◌-◌, ℕ, map}
use Rattle.number_chains.specs.Chains.{IsChained}
use Rattle.number_chains.proofs.MarkLemmas.{AreMarkedBelow}
use Rattle.number_chains.proofs.chains.Chains.marked_rows.Given as goal

abbrev pub invariant-loop-number : goal.invariant-loop-number
invariant-loop-number g l = (number_of : _ → ℕ) → IsChained (map number_of l.rows) l.self
    → AreMarkedBelow number_of l.number l.marks l.rows (map (λ r. r.now) l.found.items)

abbrev pub decreases-loop-number : goal.decreases-loop-number
decreases-loop-number g l = length l.marks - l.number
