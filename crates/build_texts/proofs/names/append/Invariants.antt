use Rattle.std.proofs.Common.{◌≡◌, ◌++◌, length}
use Rattle.build_texts.specs.Views.{seen}
use Rattle.build_texts.proofs.names.append.Given as goal

abbrev pub invariant-loop-left : goal.invariant-loop-left
invariant-loop-left l = seen l.guids.items ++ seen l.left ≡ seen l.fn.guids.items ++ seen l.more

abbrev pub decreases-loop-left : goal.decreases-loop-left
decreases-loop-left l = length l.left
