use Rattle.library_steps.proofs.NearLemmas.{near_none, near_more, near_all}
use Rattle.library_steps.proofs.near.near_marks.Goals as goal

pub loop-place-init : goal.loop-place-init
loop-place-init c = near_none c.args.skus.now c.in_ok-marks.marks.items c.in_ok-marks.ensures

pub loop-place-preserved : goal.loop-place-preserved
loop-place-preserved c =
    near_more c.args.skus.now c.args.tables.now c.as_slice.result.now _ c.loop-place.place-index c.loop-place.marks.items c.mark_place.new.marks.items c.requires c.as_slice.ensures.value
    c.mark_place.ensures c.loop-place.invariant

pub returns : goal.returns
returns c =
    near_all c.args.skus.now c.args.tables.now c.as_slice-place-items.result.now c.loop-place.place-index c.loop-place.marks.items c.requires c.as_slice-place-items.ensures.value
    c.loop-place.auto.place-index-end c.loop-place.invariant
