use Rattle.std.proofs.Common.{◌≡◌, drop}
use Rattle.library_choice.specs.Choices.{path_fault}
use Rattle.meta_lexer.specs.Faults.{first_fault}
use Rattle.library_choice.proofs.serving.check_paths.Given as goal

abbrev pub invariant-loop-path : goal.invariant-loop-path
invariant-loop-path l = first_fault (path_fault l.tables) (drop l.path-index l.found) ≡ first_fault (path_fault l.tables) l.found
