use Rattle.std.proofs.Common.{◌∙◌, ◌++◌, ◌∷◌, [], map, take, ap, sym}
use Rattle.build_base.proofs.Steps.{map-passed}
use Rattle.doc_types.specs.declared.platform.Sku.{Sku}
use Rattle.pcd_resolve.specs.SkuTables.{up_of}
use Rattle.pcd_resolve.proofs.sku_tables.ups_of.Goals as goal

pub loop-sku-preserved : goal.loop-sku-preserved
loop-sku-preserved c =
    let up = λ (sku : Sku). up_of c.args.skus.now c.args.firsts.now sku.name in
    c.in_ok-put_place.ensures
    ∙ ap (λ ups. ups ++ c.up_of.result ∷ []) c.loop-sku.invariant
    ∙ ap (λ place. map up (take c.loop-sku.sku-index c.args.skus.now) ++ place ∷ []) c.up_of.ensures
    ∙ sym (map-passed up c.args.skus.now c.loop-sku.sku-index _ c.loop-sku-test.true c.sku-item.is)
