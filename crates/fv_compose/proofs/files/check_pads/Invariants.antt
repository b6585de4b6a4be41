use Rattle.std.proofs.Common.{◌≡◌, ◌≤◌, drop}
use Rattle.fv_compose.specs.Files.{end_of, pads_fault, plain_files}
use Rattle.fv_compose.specs.Turns.{own_starts}
use Rattle.fv_compose.proofs.files.check_pads.Given as goal

abbrev pub invariant-loop-i : goal.invariant-loop-i
invariant-loop-i l = record {
  fault : pads_fault l.ffs3 l.first (plain_files l.files) ≡ pads_fault l.ffs3 l.at (plain_files (drop l.i l.files));
  starts : drop l.i l.starts ≡ own_starts l.at (drop l.i l.files);
  short : end_of l.at (plain_files (drop l.i l.files)) ≤ 268435456;
}
