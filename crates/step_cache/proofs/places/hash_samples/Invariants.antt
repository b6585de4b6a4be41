use Rattle.std.proofs.Common.{◌≡◌}
use Rattle.std.specs.Hash.FoldHasher.{write}
use Rattle.step_cache.specs.Places.{hash_samples}
use Rattle.step_cache.proofs.places.hash_samples.Given as goal

abbrev pub invariant-loop-i : goal.invariant-loop-i
invariant-loop-i l = l.state ≡ hash_samples write l.fn.state l.text l.i
