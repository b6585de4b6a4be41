use Rattle.std.proofs.Common.{◌∙◌, List, map, ap}
use Rattle.pcd_ranks.specs.declared.listing.StatedLine.{StatedLine}
use Rattle.pcd_ranks.specs.Views.{stated_view}
use Rattle.pcd_resolve.specs.Platform.{sku_assignments}
use Rattle.pcd_resolve.proofs.SourceLemmas.{assignments_same}
use Rattle.pcd_resolve.proofs.sku_values.assignments_of.Goals as goal

pub returns : goal.returns
returns c = λ h.
    let pcd = c.args.pcd.now in
    c.in_ok-all.ensures
    ∙ ap (λ (ls : List StatedLine). sku_assignments pcd.line.now (map stated_view ls) (map (λ s. s.now) pcd.sets.now) c.args.sku.now) c.group.ensures
    ∙ assignments_same stated_view pcd.line.now (map stated_view pcd.lines.now) (map (λ s. s.now) pcd.sets.now) pcd.own.now c.in_ok-key.key c.args.sku.now c.in_ok-key.ensures.items h.own
