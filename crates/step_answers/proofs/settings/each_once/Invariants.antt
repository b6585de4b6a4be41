use Rattle.std.proofs.Common.{◌≡◌, fold, length}
use Rattle.step_answers.specs.Settings.{put_arch, each_once}
use Rattle.step_answers.proofs.settings.each_once.Given as goal

abbrev pub invariant-loop-left : goal.invariant-loop-left
invariant-loop-left l = fold put_arch l.once l.left ≡ each_once l.arches

abbrev pub decreases-loop-left : goal.decreases-loop-left
decreases-loop-left l = length l.left
