use Rattle.std.proofs.Common.{◌≡◌, ◌++◌, drop}
use Rattle.inf_docs.proofs.depex.push_all.Given as goal

abbrev pub invariant-loop-term : goal.invariant-loop-term
invariant-loop-term l = l.terms ++ drop l.term-index l.more ≡ l.fn.terms ++ l.more
