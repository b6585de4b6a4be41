use Rattle.fv_compose.proofs.LengthLemmas.{stated_length}
use Rattle.fv_compose.proofs.length.length_for.Goals as goal

pub returns-in-Some-clause-length : goal.returns-in-Some-clause-length
returns-in-Some-clause-length c =
    let fits = rw c.in-Some.is at c.requires.shape in
    stated_length c.args.block c.args.top c.args.taken c.in-Some.size c.checked_length.result c.requires.some fits.0 fits.1 c.checked_length.ensures
