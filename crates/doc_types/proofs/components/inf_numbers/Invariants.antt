use Rattle.std.proofs.Common.{◌≡◌, map, take}
use Rattle.doc_types.specs.Components.{inf_number}
use Rattle.doc_types.proofs.components.inf_numbers.Given as goal

abbrev pub invariant-loop-row : goal.invariant-loop-row
invariant-loop-row l = l.numbers.items ≡ map inf_number (take l.row-index l.rows)
