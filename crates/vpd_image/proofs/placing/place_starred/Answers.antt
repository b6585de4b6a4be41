use Rattle.std.proofs.Common.{sym, ap, ◌∙◌}
use Rattle.vpd_image.specs.Places.{align_of, size_of, is_free}
use Rattle.vpd_image.specs.Rooms.{starred_at}
use Rattle.vpd_image.specs.Tables.{entry_view}
use Rattle.vpd_image.proofs.PlaceLemmas.{align_some, least_free}
use Rattle.vpd_image.proofs.placing.place_starred.Goals as goal

pub returns-clause-kept : goal.returns-clause-kept
returns-clause-kept c = λ placed h.
    let row = c.args.entry.now.row.now in
    let at = c.least-start.ensures.place placed h in
    c.in_ok-take.ensures placed (starred_at placed (entry_view c.args.entry.now)) (c.least-start.ensures.kept placed h)
    (ap (λ s. is_free placed s c.least-start.result) c.size_of-size.ensures ∙ ap (is_free placed (size_of row)) at ∙ least_free placed (align_of row.datum) (size_of row) (align_some row.datum))
    (sym at) (sym c.size_of-size.ensures)
