use Rattle.std.proofs.Common.{arith}
use Rattle.fv_compose.proofs.PlaceLemmas.{up_after}
use Rattle.fv_compose.proofs.files.check_pad.Goals as goal

pub align_up-requires-clause-fits : goal.align_up-requires-clause-fits
align_up-requires-clause-fits c = omega (arith, up_after 8 c.args.at (omega arith), c.requires.after, c.requires.near)
