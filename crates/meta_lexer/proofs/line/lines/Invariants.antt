use Rattle.std.proofs.Common.{◌≡◌, ◌+◌, ◌-◌, ◌≤◌, length, map}
use Rattle.build_base.specs.First.{with_front}
use Rattle.meta_lexer.specs.Faults.{each_or_first}
use Rattle.meta_lexer.specs.Lines.{lines_of, line_view, pieces_from, piece_fault, piece_line}
use Rattle.meta_lexer.proofs.line.lines.Given as goal

abbrev pub invariant-loop-rest : goal.invariant-loop-rest
invariant-loop-rest l = record {
  whole : with_front (map line_view l.found.items) (each_or_first piece_fault piece_line (pieces_from l.number (length l.bytes - length l.rest) l.rest)) ≡ lines_of l.bytes;
  shorter : length l.rest ≤ length l.bytes;
  few : l.number + length l.rest ≤ length l.bytes + 1;
}

abbrev pub decreases-loop-rest : goal.decreases-loop-rest
decreases-loop-rest l = length l.rest
