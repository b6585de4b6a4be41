use Rattle.std.proofs.Common.{◌≡◌, take}
use Rattle.library_choice.proofs.found.Found.paths.Given as goal

abbrev pub invariant-loop-path : goal.invariant-loop-path
invariant-loop-path l = l.rows ≡ take l.path-index l.path-items
