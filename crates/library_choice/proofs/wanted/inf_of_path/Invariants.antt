use Rattle.std.proofs.Common.{◌≡◌, drop}
use Rattle.library_choice.specs.Closure.{known}
use Rattle.library_choice.proofs.wanted.inf_of_path.Given as goal

abbrev pub invariant-loop-inf : goal.invariant-loop-inf
invariant-loop-inf l = known (drop l.inf-index l.infs) l.path ≡ known l.infs l.path
