use Rattle.std.proofs.Common.{◌≡◌, length}
use Rattle.build_base.specs.First.{with_front}
use Rattle.file_steps.specs.Apriori.{names_given}
use Rattle.file_steps.proofs.apriori.names_given.Given as goal

abbrev pub invariant-loop-left : goal.invariant-loop-left
invariant-loop-left l = with_front l.names (names_given l.given l.left) ≡ names_given l.given l.members

abbrev pub decreases-loop-left : goal.decreases-loop-left
decreases-loop-left l = length l.left
