-- Who has all shares drew all numbers.
use Rattle.drawn_waves.proofs.Whole.{all_in}
use Rattle.drawn_waves.proofs.wave.all_drawn.Goals as goal

pub returns-clause-all : goal.returns-clause-all
returns-clause-all g c = all_in (λ v. v.items) _ _ _ _ c.requires.drawn (c.look-drawn.ensures c.requires.share)
