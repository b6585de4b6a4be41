use Rattle.std.proofs.Common.{◌<◌, sym, ◌∙◌, arith}
use Rattle.vpd_image.specs.Places.{size_of}
use Rattle.vpd_image.proofs.PlaceLemmas.{least_empty}
use Rattle.vpd_image.proofs.RoomLemmas.{least_size_of}
use Rattle.vpd_image.proofs.placing.least.Goals as goal

pub returns-then-size-eq0-clause-place : goal.returns-then-size-eq0-clause-place
returns-then-size-eq0-clause-place c = λ placed h. least_empty placed _ _ (sym c.size_of-size.ensures ∙ c.if-size-eq0.true)

pub least-requires-clause-size : goal.least-requires-clause-size
least-requires-clause-size c =
    let some : 0 < size_of c.args.row.now = omega (arith, c.size_of-size.ensures, c.if-size-eq0.false) in
    (omega (arith, least_size_of c.args.row.now some, c.size_of-size.ensures), omega arith)
