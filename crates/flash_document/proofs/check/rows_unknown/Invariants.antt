use Rattle.std.proofs.Common.{◌≡◌, ℕ, List, length}
use Rattle.meta_lexer.specs.Faults.{first_fault}
use Rattle.flash_document.specs.Names.{Places}
use Rattle.flash_document.specs.Whole.{row_unknown}
use Rattle.flash_document.proofs.check.rows_unknown.Given as goal

abbrev pub invariant-loop-left : goal.invariant-loop-left
invariant-loop-left l = (names : List (List ℕ)) → Places names l.table → first_fault (row_unknown names) l.left ≡ first_fault (row_unknown names) l.rows

abbrev pub decreases-loop-left : goal.decreases-loop-left
decreases-loop-left l = length l.left
