use Rattle.std.proofs.Common.{◌≡◌, length}
use Rattle.build_base.specs.First.{with_front}
use Rattle.library_steps.specs.Parts.{parts_from}
use Rattle.library_steps.proofs.parts.parts_from.Given as goal

abbrev pub invariant-loop-left : goal.invariant-loop-left
invariant-loop-left l = with_front l.all (parts_from l.given l.left) ≡ parts_from l.given l.modules

abbrev pub decreases-loop-left : goal.decreases-loop-left
decreases-loop-left l = length l.left
