use Rattle.std.proofs.Common.{◌≡◌, ◌≤◌, ◌++◌, drop}
use Rattle.fv_compose.specs.Files.{end_of, plain_files}
use Rattle.fv_compose.specs.Turns.{own_starts}
use Rattle.fv_compose.specs.Places.{placed_from}
use Rattle.fv_compose.proofs.places.placed_from.Given as goal

abbrev pub invariant-loop-i : goal.invariant-loop-i
invariant-loop-i l = record {
  placed : placed_from l.size l.first l.files ≡ l.places ++ placed_from l.size l.at (drop l.i l.files);
  starts : drop l.i l.starts ≡ own_starts l.at (drop l.i l.files);
  short : end_of l.at (plain_files (drop l.i l.files)) ≤ 268435456;
}
