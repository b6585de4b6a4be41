use Rattle.std.proofs.Common.{◌≡◌, ◌≤◌, ◌+◌, ◌*◌, drop, length}
use Rattle.build_base.specs.Pieces.{put_pieces}
use Rattle.build_base.specs.Runs.{free_byte}
use Rattle.fv_compose.specs.Files.{files_pieces, end_of, plain_files, bytes_in}
use Rattle.fv_compose.specs.Turns.{own_starts}
use Rattle.fv_compose.proofs.FileLemmas.{Filed}
use Rattle.fv_compose.proofs.files.put_files.Given as goal

abbrev pub invariant-loop-i : goal.invariant-loop-i
invariant-loop-i l = record {
  filed :
      Filed (put_pieces (free_byte l.erase) l.fn.out.bytes (files_pieces l.erase (length l.fn.out.bytes) (plain_files l.files))) (end_of (length l.fn.out.bytes) (plain_files l.files)) l.erase l.out.bytes (plain_files (drop l.i l.files));
  starts : drop l.i l.starts ≡ own_starts (length l.out.bytes) (drop l.i l.files);
  kept : l.out.kept + bytes_in (plain_files (drop l.i l.files)) ≤ l.fn.out.kept + bytes_in (plain_files l.files) + 32 * l.i;
  free : l.out.free ≡ l.fn.out.free;
}
