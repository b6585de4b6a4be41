use Rattle.std.proofs.Common.{arith}
use Rattle.fv_compose.proofs.PlaceLemmas.{known_alignment, head_short, start_is_least}
use Rattle.fv_compose.proofs.place.start.Goals as goal

pub start_from-requires-clause-short : goal.start_from-requires-clause-short
start_from-requires-clause-short c = head_short c.args.head c.requires.head

pub returns-clause-near : goal.returns-clause-near
returns-clause-near c =
    let k = known_alignment c.args.align c.requires.alignment in
    let h = head_short c.args.head c.requires.head in
    omega arith

pub returns-clause-least : goal.returns-clause-least
returns-clause-least c = rw c.start_from.ensures.value (start_is_least c.args.at c.args.align c.args.head c.requires.alignment c.requires.head)
