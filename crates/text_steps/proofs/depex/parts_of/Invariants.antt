use Rattle.std.proofs.Common.{◌≡◌, ◌++◌, length}
use Rattle.std.specs.Prelude.{filter}
use Rattle.text_steps.specs.Depex.{applies}
use Rattle.text_steps.proofs.depex.parts_of.Given as goal

abbrev pub invariant-loop-left : goal.invariant-loop-left
invariant-loop-left l =
    l.parts ++ filter (applies l.arch l.kind) l.left ≡ filter (applies l.arch l.kind) l.sections

abbrev pub decreases-loop-left : goal.decreases-loop-left
decreases-loop-left l = length l.left
