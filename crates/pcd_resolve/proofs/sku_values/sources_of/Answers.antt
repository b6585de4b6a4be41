use Rattle.std.proofs.Common.{sym, subst}
use Rattle.pcd_resolve.specs.PcdLines.{own_values}
use Rattle.pcd_resolve.specs.SkuTables.{AreKnown}
use Rattle.pcd_resolve.proofs.SourceLemmas.{known_more, known_none}
use Rattle.pcd_resolve.proofs.sku_values.sources_of.Goals as goal

pub loop-place-init : goal.loop-place-init
loop-place-init c = λ h. known_none (own_values c.args.pcd.now) c.args.pcd.now.skus.now c.in_ok-known.known.items c.in_ok-known.ensures

pub loop-place-preserved : goal.loop-place-preserved
loop-place-preserved c = λ h.
    let rows = own_values c.args.pcd.now in
    let skus = c.args.pcd.now.skus.now in
    known_more rows skus c.loop-place.place-index _ c.loop-place.known.items c.set_place.new.places.items c.in_ok-from.from c.set_place.ensures
    (c.in_ok-from.ensures c.loop-place.place-index h (subst (AreKnown rows skus c.loop-place.place-index) (sym c.as_slice.ensures.value) (c.loop-place.invariant h)))
    (c.loop-place.invariant h)
