use Rattle.std.proofs.Common.{arith, sym, ap, ◌∙◌, ◌+◌, map, refl, drop}
use Rattle.vpd_image.specs.Places.{long_fault, placed_from}
use Rattle.vpd_image.specs.Tables.{entry_view, placed_view}
use Rattle.vpd_image.proofs.PlaceLemmas.{next_left, none_left, refused_long, ended_whole, long_more, holds_nil, long_none}
use Rattle.vpd_image.proofs.placing.place_all.Goals as goal

pub loop-i-init : goal.loop-i-init
loop-i-init c = rw c.new-done.ensures.items (record { holds = holds_nil (map placed_view c.args.fixed.now) c.args.room.now c.requires; fits = long_none; left = refl })

pub returns-in-Err : goal.returns-in-Err
returns-in-Err c =
    let fixed = map placed_view c.args.fixed.now in
    let above = map placed_view c.loop-i.done.items in
    refused_long c.in-Err.refusal fixed above _ _ _ c.in-Err.ensures.fault c.loop-i.invariant.fits
    (sym (next_left fixed above c.args.entries.now c.loop-i.i c.index-entries-i.result (omega arith) c.index-entries-i.is) ∙ c.loop-i.invariant.left)

pub loop-i-preserved : goal.loop-i-preserved
loop-i-preserved c =
    let fixed = map placed_view c.args.fixed.now in
    let above = map placed_view c.loop-i.done.items in
    record {
      holds = c.in_default.ensures.kept;
      fits = ap long_fault c.in_default.ensures.next ∙ long_more above _ c.loop-i.invariant.fits ∙ c.in_default.ensures.fault;
      left =
          ap (λ z. placed_from fixed z (map entry_view (drop (c.loop-i.i + 1) c.args.entries.now))) c.in_default.ensures.next
          ∙ sym (next_left fixed above c.args.entries.now c.loop-i.i c.index-entries-i.result (omega arith) c.index-entries-i.is) ∙ c.loop-i.invariant.left;
    }

pub returns : goal.returns
returns c =
    let fixed = map placed_view c.args.fixed.now in
    let above = map placed_view c.loop-i.done.items in
    ended_whole above _ c.loop-i.invariant.fits (sym (none_left fixed above c.args.entries.now c.loop-i.i (omega arith)) ∙ c.loop-i.invariant.left)
