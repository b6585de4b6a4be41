use Rattle.std.proofs.Common.{◌≡◌, map, take}
use Rattle.doc_types.specs.Components.{lines_number}
use Rattle.doc_types.proofs.components.lines_numbers.Given as goal

abbrev pub invariant-loop-row : goal.invariant-loop-row
invariant-loop-row l = l.numbers.items ≡ map lines_number (take l.row-index l.rows)
