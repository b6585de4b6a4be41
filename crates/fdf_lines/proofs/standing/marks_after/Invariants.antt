use Rattle.std.proofs.Common.{◌≡◌, drop, fold}
use Rattle.fdf_lines.specs.Standing.{marks_with}
use Rattle.fdf_lines.proofs.standing.marks_after.Given as goal

abbrev pub invariant-loop-row : goal.invariant-loop-row
invariant-loop-row l = fold marks_with l.after (drop l.row-index l.rows) ≡ fold marks_with l.fn.marks l.rows
