use Rattle.std.proofs.Common.{◌≡◌, length}
use Rattle.depex_code.specs.Terms.{settle}
use Rattle.depex_code.specs.Sizes.{sizes}
use Rattle.depex_code.specs.Kept.{waits_of, piece_size}
use Rattle.depex_code.proofs.terms.settle_operand.Given as goal

abbrev pub invariant-loop-wait : goal.invariant-loop-wait
invariant-loop-wait l = settle sizes (waits_of l.waits.items) (piece_size l.value) ≡ settle sizes (waits_of l.fn.waits.items) (piece_size l.fn.factor)

abbrev pub decreases-loop-wait : goal.decreases-loop-wait
decreases-loop-wait l = length (waits_of l.waits.items)
