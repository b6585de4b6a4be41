use Rattle.std.proofs.Common.{◌≡◌, length}
use Rattle.step_cache.specs.Decoding.{all_some, batch_at}
use Rattle.step_cache.proofs.GivenLemmas.{in_front}
use Rattle.step_cache.proofs.decoding.batches_at.Given as goal

abbrev pub invariant-loop-left : goal.invariant-loop-left
invariant-loop-left l = in_front l.batches (all_some (batch_at l.answers) l.left) ≡ all_some (batch_at l.answers) l.asked

abbrev pub decreases-loop-left : goal.decreases-loop-left
decreases-loop-left l = length l.left
