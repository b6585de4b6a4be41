use Rattle.std.proofs.Common.{length}
use Rattle.volume_nesting.proofs.strong_components.Walk.close_set.Given as goal

abbrev pub decreases-loop-last : goal.decreases-loop-last
decreases-loop-last l = length l.self.waiting.items
