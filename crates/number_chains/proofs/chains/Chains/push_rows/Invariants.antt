use Rattle.std.proofs.Common.{length, ◌-◌, ◌≡◌, ◌<◌, ◌++◌, ℕ, get_or, map, filter, drop}
use Rattle.number_chains.specs.Chains.{IsChained}
use Rattle.number_chains.specs.Marks.{has}
use Rattle.number_chains.proofs.chains.Chains.push_rows.Given as goal

abbrev pub invariant-loop-place : goal.invariant-loop-place
invariant-loop-place g l = record {
  rest : (number_of : _ → ℕ) → IsChained (map number_of l.rows) l.self
      → map (λ r. r.now) l.found.items ++ filter (has number_of l.number) (drop l.place l.rows)
      ≡ map (λ r. r.now) l.initial.found.items ++ filter (has number_of l.number) l.rows;
  stands : (number_of : _ → ℕ) → IsChained (map number_of l.rows) l.self
      → l.place < length l.rows → get_or (map number_of l.rows) l.place 0 ≡ l.number;
}

abbrev pub decreases-loop-place : goal.decreases-loop-place
decreases-loop-place g l = length l.rows - l.place
