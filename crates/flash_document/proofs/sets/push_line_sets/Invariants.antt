use Rattle.std.proofs.Common.{◌≡◌, ◌++◌, drop}
use Rattle.flash_document.specs.Sets.{line_sets}
use Rattle.flash_document.proofs.sets.push_line_sets.Given as goal

abbrev pub invariant-loop-k : goal.invariant-loop-k
invariant-loop-k l = l.sets ++ line_sets l.above l.line l.rest l.k (drop l.k l.bases) ≡ l.fn.sets ++ line_sets l.above l.line l.rest 0 l.bases
