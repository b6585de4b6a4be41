use Rattle.std.proofs.Common.{◌≡◌, ◌++◌, length}
use Rattle.std.specs.List.{flat_map}
use Rattle.step_answers.specs.Settings.{modules_for}
use Rattle.step_answers.proofs.settings.modules_of.Given as goal

abbrev pub invariant-loop-left : goal.invariant-loop-left
invariant-loop-left l = l.modules ++ flat_map (modules_for l.components) l.left ≡ flat_map (modules_for l.components) l.arches

abbrev pub decreases-loop-left : goal.decreases-loop-left
decreases-loop-left l = length l.left
