use Rattle.std.proofs.Common.{◌≡◌, Some, map, sym, subst}
use Rattle.build_base.specs.Answer.{Answers}
use Rattle.pcd_ranks.specs.Views.{stated_view}
use Rattle.pcd_resolve.specs.PcdLines.{own_values}
use Rattle.pcd_resolve.specs.Platform.{row_by_source, source}
use Rattle.pcd_resolve.proofs.dynamic.row_at.Goals as goal

pub returns-in-Some : goal.returns-in-Some
unfolding source
returns-in-Some c =
    let pcd = c.args.pcd.now in
    let from : source pcd.line.now (map stated_view pcd.lines.now) (map (λ s. s.now) pcd.sets.now) pcd.skus.now c.args.sku.now.name ≡ Some c.in-Some.from.now.name =
    c.in-Some.ensures (own_values pcd) c.requires.known in
    subst
    (λ o. Answers c.row_from.result (row_by_source c.args.kind pcd.line.now (map stated_view pcd.lines.now) (map (λ s. s.now) pcd.sets.now) c.args.sku.now.name o))
    (sym from) (c.row_from.ensures c.requires.tables)
