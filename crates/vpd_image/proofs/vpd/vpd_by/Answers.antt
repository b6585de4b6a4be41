use Rattle.std.proofs.Common.{map}
use Rattle.vpd_image.specs.Tables.{entry_view, placed_view}
use Rattle.vpd_image.proofs.ApartLemmas.{made_apart, placed_is}
use Rattle.vpd_image.proofs.ImageLemmas.{made_read}
use Rattle.vpd_image.proofs.vpd.vpd_by.Goals as goal

pub returns-clause-apart : goal.returns-clause-apart
returns-clause-apart c = made_apart _ _ c.in_ok-placed.ensures.apart c.in_ok-vpd.ensures

pub returns-clause-read : goal.returns-clause-read
returns-clause-read c =
    let entries = map entry_view c.args.entries.now in
    let placed = map placed_view c.in_ok-placed.placed.items in
    made_read entries _ placed (placed_is entries placed c.in_ok-placed.ensures.value) c.in_ok-placed.ensures.apart c.in_ok-vpd.ensures
