use Rattle.std.proofs.Common.{◌≡◌, drop}
use Rattle.library_choice.specs.Closure.{same_path}
use Rattle.library_choice.specs.Found.{add}
use Rattle.library_choice.proofs.closure.put_paths.Given as goal

abbrev pub invariant-loop-path : goal.invariant-loop-path
invariant-loop-path l = add same_path l.found (drop l.path-index l.paths) ≡ add same_path l.fn.found l.paths
