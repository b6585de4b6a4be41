use Rattle.std.proofs.Common.{◌≡◌, drop}
use Rattle.fv_compose.specs.Files.{top_of}
use Rattle.fv_compose.proofs.files.top_of.Given as goal

abbrev pub invariant-loop-file : goal.invariant-loop-file
invariant-loop-file l = top_of l.files ≡ top_of (drop l.file-index l.files)
