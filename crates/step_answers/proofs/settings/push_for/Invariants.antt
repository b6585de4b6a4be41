use Rattle.std.proofs.Common.{◌≡◌, ◌++◌, length}
use Rattle.step_answers.specs.Settings.{modules_for}
use Rattle.step_answers.proofs.settings.push_for.Given as goal

abbrev pub invariant-loop-left : goal.invariant-loop-left
invariant-loop-left l = l.modules ++ modules_for l.left l.arch ≡ l.fn.modules ++ modules_for l.components l.arch

abbrev pub decreases-loop-left : goal.decreases-loop-left
decreases-loop-left l = length l.left
