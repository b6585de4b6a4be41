use Rattle.std.proofs.Common.{◌∙◌, map, sym}
use Rattle.pcd_ranks.specs.Views.{stated_view}
use Rattle.pcd_resolve.proofs.SourceLemmas.{source_own, source_up}
use Rattle.pcd_resolve.proofs.sku_values.source_at.Goals as goal

pub returns-then-branch : goal.returns-then-branch
returns-then-branch c = λ n h k from e.
    let pcd = c.args.pcd.now in
    source_own pcd.line.now (map stated_view pcd.lines.now) (map (λ s. s.now) pcd.sets.now) pcd.skus.now c.args.place from n c.in-Some.sku.now (sym c.in-Some.ensures)
    (sym (c.in_ok-has_value.ensures h) ∙ c.if-branch.true) e

pub returns : goal.returns
returns c = λ n h k from e.
    let pcd = c.args.pcd.now in
    source_up pcd.line.now (map stated_view pcd.lines.now) (map (λ s. s.now) pcd.sets.now) pcd.skus.now pcd.tables.now c.args.known.now c.as_slice.result.now c.args.place from n c.in-Some.sku.now
    (sym c.in-Some.ensures) h.skus c.as_slice.ensures.value (sym (c.in_ok-has_value.ensures h) ∙ c.if-branch.false) k (sym c.known_above.ensures ∙ e)
