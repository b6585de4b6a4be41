use Rattle.std.proofs.Common.{◌≡◌, ◌≤◌, ◌+◌, ◌*◌, ◌++◌, drop}
use Rattle.fv_compose.specs.Files.{end_of, plain_files}
use Rattle.fv_compose.specs.Turns.{own_starts}
use Rattle.fv_compose.proofs.layout.lay_out.Given as goal

abbrev pub invariant-loop-file : goal.invariant-loop-file
invariant-loop-file l = record {
  starts : own_starts l.first l.files ≡ l.starts ++ own_starts l.end (drop l.file-index l.files);
  value : end_of l.first (plain_files l.files) ≡ end_of l.end (plain_files (drop l.file-index l.files));
  small : l.end ≤ 116 + l.file-index * 9223372036888330240;
}
