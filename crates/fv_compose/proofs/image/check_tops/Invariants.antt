use Rattle.std.proofs.Common.{◌≡◌, drop}
use Rattle.fv_compose.specs.Files.{top_files}
use Rattle.fv_compose.proofs.TopLemmas.{later}
use Rattle.fv_compose.proofs.image.check_tops.Given as goal

abbrev pub invariant-loop-file : goal.invariant-loop-file
invariant-loop-file l = drop 1 (top_files l.files) ≡ later l.found (top_files (drop l.file-index l.files))
