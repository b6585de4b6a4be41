use Rattle.std.proofs.Common.{ℕ, ◌-◌, nat_eq, List}
use Rattle.library_choice.specs.Reaching.{next_at}
use Rattle.library_choice.specs.Search.{Closed, Stands}
use Rattle.library_choice.proofs.reach.pass.Given as goal

abbrev pub invariant-loop-at : goal.invariant-loop-at
invariant-loop-at l = (b starts : List ℕ) → Closed nat_eq (next_at l.nexts) b → Stands nat_eq (next_at l.nexts) b starts l.fn.passed 0 → Stands nat_eq (next_at l.nexts) b starts l.passed l.at

abbrev pub decreases-loop-at : goal.decreases-loop-at
decreases-loop-at l = 1025 - l.at
