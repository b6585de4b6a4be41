use Rattle.std.proofs.Common.{◌∙◌}
use Rattle.pcd_ranks.specs.Views.{stated_view}
use Rattle.pcd_resolve.specs.SkuTables.{stated_sku}
use Rattle.pcd_resolve.proofs.GroupLemmas.{grouped_more}
use Rattle.pcd_resolve.proofs.sku_values.add_line.Goals as goal

pub returns : goal.returns
returns c = λ xs h. grouped_more stated_view stated_sku xs _ c.in_ok-key.key c.args.table.now c.add.new.table (c.in_ok-key.ensures.items ∙ c.bytes.ensures) (λ q. c.in_ok-add.ensures q) h
