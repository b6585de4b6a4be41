use Rattle.depex_code.specs.Kept.{state_of}
use Rattle.depex_code.proofs.PartLemmas.{Follows}
use Rattle.depex_code.proofs.part.read_terms.Given as goal

abbrev pub invariant-loop-term : goal.invariant-loop-term
invariant-loop-term l = Follows l.at l.guids l.edge l.terms l.term-index (state_of l.waits.items l.stage)
