use Rattle.std.proofs.Common.{◌≡◌, ◌++◌, drop}
use Rattle.flash_document.specs.Parts.{stated_from}
use Rattle.flash_document.proofs.parts.push_stated.Given as goal

abbrev pub invariant-loop-k : goal.invariant-loop-k
invariant-loop-k l = l.parts ++ stated_from l.at l.k (drop l.k l.scopes) l.lines ≡ l.fn.parts ++ stated_from l.at 0 l.scopes l.lines
