use Rattle.std.proofs.Common.{◌≡◌, length}
use Rattle.step_cache.specs.Decoding.{all_some, entry_at}
use Rattle.step_cache.proofs.GivenLemmas.{in_front}
use Rattle.step_cache.proofs.decoding.entries_at.Given as goal

abbrev pub invariant-loop-left : goal.invariant-loop-left
invariant-loop-left l = in_front l.entries (all_some (entry_at l.decoded.answers l.decoded.outcomes) l.left) ≡ all_some (entry_at l.decoded.answers l.decoded.outcomes) l.numbers

abbrev pub decreases-loop-left : goal.decreases-loop-left
decreases-loop-left l = length l.left
