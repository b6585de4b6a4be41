use Rattle.std.proofs.Common.{◌≡◌, drop}
use Rattle.library_choice.specs.Choices.{class_fault}
use Rattle.meta_lexer.specs.Faults.{first_fault}
use Rattle.library_choice.proofs.serving.check_classes.Given as goal

abbrev pub invariant-loop-class : goal.invariant-loop-class
invariant-loop-class l = first_fault (class_fault l.tables) (drop l.class-index l.classes) ≡ first_fault (class_fault l.tables) l.classes
