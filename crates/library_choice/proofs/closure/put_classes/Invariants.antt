use Rattle.std.proofs.Common.{◌≡◌, drop}
use Rattle.std.specs.List.{filter_map}
use Rattle.library_choice.specs.Closure.{same_path, instance_of}
use Rattle.library_choice.specs.Found.{add}
use Rattle.library_choice.proofs.closure.put_classes.Given as goal

abbrev pub invariant-loop-class : goal.invariant-loop-class
invariant-loop-class l = add same_path l.found (filter_map (instance_of l.tables) (drop l.class-index l.classes)) ≡ add same_path l.fn.found (filter_map (instance_of l.tables) l.classes)
