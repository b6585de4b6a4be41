use Rattle.fv_compose.specs.Place.{align_up}
use Rattle.fv_compose.proofs.PlaceLemmas.{up_is_least, up_near}
use Rattle.fv_compose.proofs.place.align_up.Goals as goal

pub returns-clause-least : goal.returns-clause-least
unfolding align_up
returns-clause-least c = up_is_least c.args.unit c.args.at c.requires.some

pub returns-clause-near : goal.returns-clause-near
unfolding align_up
returns-clause-near c = up_near c.args.unit c.args.at c.requires.some
