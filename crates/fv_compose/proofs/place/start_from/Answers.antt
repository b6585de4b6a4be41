use Rattle.std.proofs.Common.{arith}
use Rattle.fv_compose.proofs.PlaceLemmas.{known_alignment}
use Rattle.fv_compose.proofs.place.start_from.Goals as goal

pub align_up-requires-clause-fits : goal.align_up-requires-clause-fits
align_up-requires-clause-fits c = let k = known_alignment c.args.unit c.requires.alignment in omega arith
