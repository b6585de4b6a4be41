use Rattle.std.proofs.Common.{◌≡◌, ◌++◌, length}
use Rattle.build_texts.specs.Code.{calls}
use Rattle.build_texts.proofs.source.put_calls.Given as goal

abbrev pub invariant-loop-left : goal.invariant-loop-left
invariant-loop-left l = l.out.items ++ calls l.left ≡ l.fn.out.items ++ calls l.listed

abbrev pub decreases-loop-left : goal.decreases-loop-left
decreases-loop-left l = length l.left
