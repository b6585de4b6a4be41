use Rattle.std.proofs.Common.{◌≡◌, ◌+◌, ◌-◌, ◌≤◌, length, drop, map}
use Rattle.build_base.specs.First.{with_front}
use Rattle.meta_lexer.specs.Faults.{each_or_first}
use Rattle.meta_lexer.specs.Lines.{lines_of, pieces_from, piece_fault, piece_line}
use Rattle.macro_conditions.specs.Work.{text_line}
use Rattle.macro_conditions.proofs.places.places.Given as goal

abbrev pub invariant-loop-rest : goal.invariant-loop-rest
invariant-loop-rest l = record {
  whole : with_front (map (text_line l.bytes) l.found.items) (each_or_first piece_fault piece_line (pieces_from l.number (length l.bytes - length l.rest) l.rest)) ≡ lines_of l.bytes;
  shorter : length l.rest ≤ length l.bytes;
  at : l.rest ≡ drop (length l.bytes - length l.rest) l.bytes;
  few : l.number + length l.rest ≤ length l.bytes + 1;
}

abbrev pub decreases-loop-rest : goal.decreases-loop-rest
decreases-loop-rest l = length l.rest
