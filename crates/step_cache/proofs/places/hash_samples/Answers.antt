use Rattle.std.proofs.Common.{◌∙◌, refl, sym, ap, add-one}
use Rattle.std.specs.Hash.FoldHasher.{write}
use Rattle.step_cache.specs.Places.{hash_samples}
use Rattle.step_cache.proofs.places.hash_samples.Goals as goal

pub loop-i-init : goal.loop-i-init
unfolding hash_samples
loop-i-init c = refl

pub loop-i-preserved : goal.loop-i-preserved
unfolding hash_samples
loop-i-preserved c =
    let text = c.args.text.now in
    c.write.ensures ∙ ap (λ s. write s c.part_of.result.now) c.loop-i.invariant
    ∙ ap (write (hash_samples write c.args.state text c.loop-i.i)) c.part_of.ensures
    ∙ sym (ap (hash_samples write c.args.state text) (add-one c.loop-i.i))
