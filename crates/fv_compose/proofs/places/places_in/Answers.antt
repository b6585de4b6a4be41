use Rattle.std.proofs.Common.{arith}
use Rattle.fv_compose.proofs.ImageLemmas.{taken_after}
use Rattle.fv_compose.proofs.places.places_in.Goals as goal

pub placed_from-requires-clause-short : goal.placed_from-requires-clause-short
placed_from-requires-clause-short c =
    let room = taken_after c.args.layout.now.end c.args.size _ c.requires.length.room in
    rw c.header_end-first.ensures.value (omega (arith, c.requires.laid.end))
