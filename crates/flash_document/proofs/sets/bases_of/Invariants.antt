use Rattle.std.proofs.Common.{◌≡◌, ◌++◌, drop}
use Rattle.flash_document.specs.Sets.{bases_from}
use Rattle.flash_document.proofs.sets.bases_of.Given as goal

abbrev pub invariant-loop-k : goal.invariant-loop-k
invariant-loop-k l = l.bases ++ bases_from l.k (drop l.k l.scopes) l.lines ≡ bases_from 0 l.scopes l.lines
