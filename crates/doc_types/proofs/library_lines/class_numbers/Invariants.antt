use Rattle.std.proofs.Common.{◌≡◌, map, take}
use Rattle.doc_types.specs.LibraryLines.{class_number}
use Rattle.doc_types.proofs.library_lines.class_numbers.Given as goal

abbrev pub invariant-loop-row : goal.invariant-loop-row
invariant-loop-row l = l.numbers.items ≡ map class_number (take l.row-index l.rows)
