use Rattle.std.proofs.Common.{◌≡◌, ◌++◌, length}
use Rattle.build_texts.specs.Code.{entries}
use Rattle.build_texts.proofs.source.put_entries.Given as goal

abbrev pub invariant-loop-left : goal.invariant-loop-left
invariant-loop-left l = l.out.items ++ entries l.left ≡ l.fn.out.items ++ entries l.listed

abbrev pub decreases-loop-left : goal.decreases-loop-left
decreases-loop-left l = length l.left
