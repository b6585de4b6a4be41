use Rattle.std.proofs.Common.{sym, refl, ◌∙◌, map}
use Rattle.vpd_image.specs.Tables.{placed_view}
use Rattle.vpd_image.proofs.PlaceLemmas.{empty_alone, holds_empty, free_alone, taken_shared}
use Rattle.vpd_image.proofs.places.take_written.Goals as goal

pub returns-then-size-eq0-clause-fault : goal.returns-then-size-eq0-clause-fault
returns-then-size-eq0-clause-fault c = empty_alone (map placed_view c.args.above.now) (placed_view c.args.placed.now) (sym c.size_of-size.ensures ∙ c.if-size-eq0.true)

pub returns-then-size-eq0-clause-kept : goal.returns-then-size-eq0-clause-kept
returns-then-size-eq0-clause-kept c = holds_empty (map placed_view c.args.above.now) (placed_view c.args.placed.now) c.args.room.now (sym c.size_of-size.ensures ∙ c.if-size-eq0.true) c.requires

pub returns-then-is_free-clause-fault : goal.returns-then-is_free-clause-fault
returns-then-is_free-clause-fault c =
    free_alone (map placed_view c.args.above.now) (placed_view c.args.placed.now) _ c.size_of-size.result refl c.size_of-size.ensures (sym (c.is_free.ensures _ c.requires) ∙ c.if-is_free.true)

pub returns-then-is_free-clause-kept : goal.returns-then-is_free-clause-kept
returns-then-is_free-clause-kept c =
    c.in_ok-put.ensures (map placed_view c.args.above.now) (placed_view c.args.placed.now) c.requires (sym (c.is_free.ensures _ c.requires) ∙ c.if-is_free.true) refl (sym c.size_of-size.ensures)

pub unreachable-requires : goal.unreachable-requires
unreachable-requires c =
    taken_shared (map placed_view c.args.above.now) (placed_view c.args.placed.now) _ c.size_of-size.result refl c.size_of-size.ensures (sym (c.is_free.ensures _ c.requires) ∙ c.if-is_free.false) (c.in_ok-check_overlap.ensures)
