use Rattle.std.proofs.Common.{◌≡◌, take, map}
use Rattle.build_words.proofs.given.texts.Given as goal

abbrev pub invariant-loop-value : goal.invariant-loop-value
invariant-loop-value l = l.rows ≡ map (λ v. v.now) (take l.value-index l.values)
