use Rattle.std.proofs.Common.{arith}
use Rattle.fv_compose.proofs.TopLemmas.{aligned_top}
use Rattle.fv_compose.proofs.ImageLemmas.{taken_after}
use Rattle.fv_compose.proofs.image.check_places.Goals as goal

pub check_top-requires-clause-aligned : goal.check_top-requires-clause-aligned
check_top-requires-clause-aligned c = rw c.requires.top (aligned_top c.args.files.now c.requires.aligned)

pub check_pads-requires-clause-short : goal.check_pads-requires-clause-short
check_pads-requires-clause-short c =
    let room = taken_after c.args.layout.now.end c.args.size _ c.requires.length.room in
    rw c.header_end-first.ensures.value (omega (arith, c.requires.laid.end))
