use Rattle.std.proofs.Common.{ℕ, ◌-◌, List}
use Rattle.library_choice.specs.Closure.{same_path, next}
use Rattle.library_choice.specs.Search.{Closed, Stands, Prefix}
use Rattle.library_choice.proofs.closure.pass.Given as goal

abbrev pub invariant-loop-at : goal.invariant-loop-at
invariant-loop-at l = record {
  stands : (b starts : List (List ℕ)) → Closed same_path (next l.tables) b → Stands same_path (next l.tables) b starts l.fn.found l.fn.from → Stands same_path (next l.tables) b starts l.found l.at;
  grows : Prefix l.fn.found l.found;
}

abbrev pub decreases-loop-at : goal.decreases-loop-at
decreases-loop-at l = 1025 - l.at
