use Rattle.std.proofs.Common.{◌≡◌, ◌++◌, length}
use Rattle.inf_docs.specs.Depex.{line_terms}
use Rattle.inf_docs.proofs.depex.push_terms.Given as goal

abbrev pub invariant-loop-rows : goal.invariant-loop-rows
invariant-loop-rows l = l.terms ++ line_terms l.rows ≡ l.fn.terms ++ line_terms l.initial.rows

abbrev pub decreases-loop-rows : goal.decreases-loop-rows
decreases-loop-rows l = length l.rows
