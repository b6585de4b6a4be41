use Rattle.std.proofs.Common.{◌≡◌, take, drop, []}
use Rattle.doc_reading.specs.Reading.{lines_fault}
use Rattle.doc_reading.proofs.reader.read_lines.Given as goal

abbrev pub invariant-loop-i : goal.invariant-loop-i
invariant-loop-i g l = record {
  rows : g.R.Reader.read (take l.i l.lines) l.reader;
  faults : lines_fault g.R.Reader.fault (take l.i l.lines) (drop l.i l.lines) ≡ lines_fault g.R.Reader.fault [] l.lines;
}
